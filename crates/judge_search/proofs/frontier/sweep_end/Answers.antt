use Rattle.std.proofs.Common.{◌≡◌, ◌≤◌, ◌<◌, length, arith}
use Rattle.std.specs.Prelude.{vec_len}
use Rattle.judge_search.proofs.Fronts.{sweeping_first, sweeping_more, swept}
use Rattle.judge_search.proofs.frontier.sweep_end.Goals as goal

pub nodes-init : goal.nodes-init
nodes-init g c = λ start come.
    let kept = c.in_ok-last.ensures c.in_default.is in
    sweeping_first g.M.Object.rules c.args.calls.now start c.args.nodes.items c.new-front.result c.keep_all.new.front
    c.new-front.ensures.due c.new-front.ensures.ahead kept.0 kept.1 come

pub nodes-preserved : goal.nodes-preserved
nodes-preserved g c = λ start come.
    let kept = c.in_ok-last-2.ensures c.in_default-2.is in
    let nodes = c.nodes.front.due.nodes in
    let long : vec_len nodes ≡ length nodes.items = nodes.ok.0 in
    let within : c.nodes.number < length nodes.items =
    (let e = c.len.ensures in let t = c.if-len-number.false in omega arith) in
    sweeping_more g.M.Object.rules c.args.calls.now start c.args.nodes.items c.in_ok-nodes.nodes.items c.nodes.number
    c.index.result.now c.nodes.front c.keep_all-in-nodes.new.front within c.index.ensures c.in_ok-nodes.ensures kept.0
    kept.1 (c.nodes.invariant start come)

pub returns-then-len-number : goal.returns-then-len-number
returns-then-len-number g c = λ start come.
    let nodes = c.nodes.front.due.nodes in
    let long : vec_len nodes ≡ length nodes.items = nodes.ok.0 in
    let all : length nodes.items ≤ c.nodes.number =
    (let e = c.len.ensures in let t = c.if-len-number.true in omega arith) in
    swept g.M.Object.rules c.args.calls.now start c.args.nodes.items c.nodes.number c.nodes.front all
    (c.nodes.invariant start come)
