use Rattle.std.proofs.Common.{◌≡◌, length, subst, arith}
use Rattle.std.specs.Prelude.{vec_len}
use Rattle.judge_search.specs.Point.{point_at}
use Rattle.judge_search.specs.Frontier.{Sweeps}
use Rattle.judge_search.proofs.Fronts.{no_items, searches_more, shows_at}
use Rattle.judge_search.proofs.frontier.find_by_ends.Goals as goal

pub ends-preserved : goal.ends-preserved
ends-preserved g c =
    let X = g.M.Object.rules in
    let calls = c.args.calls.now in
    let start = point_at X calls c.args.start in
    searches_more X calls start c.ends.best c.deepest_of-best.result c.ends.nodes.items c.in-Swept.front
    (subst (Sweeps X calls c.ends.nodes.items) c.in-Swept.is c.in_ok-front.ensures start c.ends.invariant.nodes_come)
    c.deepest_of-best.ensures c.ends.invariant

pub returns-then-len-eq0 : goal.returns-then-len-eq0
returns-then-len-eq0 g c =
    let X = g.M.Object.rules in
    let calls = c.args.calls.now in
    let start = point_at X calls c.args.start in
    let nodes = c.in-Swept.front.ahead.nodes in
    let long : vec_len nodes ≡ length nodes.items = nodes.ok.0 in
    let none : length nodes.items ≡ 0 =
    (let e = c.len-in-ends.ensures in let t = c.if-len-eq0.true in omega arith) in
    shows_at X calls start c.deepest_of-best.result nodes.items c.failure_at.result c.failure_at.ensures
    (no_items nodes.items none)
    (searches_more X calls start c.ends.best c.deepest_of-best.result c.ends.nodes.items c.in-Swept.front
    (subst (Sweeps X calls c.ends.nodes.items) c.in-Swept.is c.in_ok-front.ensures start c.ends.invariant.nodes_come)
    c.deepest_of-best.ensures c.ends.invariant)
