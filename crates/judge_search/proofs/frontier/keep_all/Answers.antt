use Rattle.std.proofs.Common.{◌≤◌, sym, subst}
use Rattle.std.specs.Prelude.{All}
use Rattle.std.proofs.lemmas.List.Elements.{All-nil, All-push}
use Rattle.judge_object.proofs.CutLines.{all_met, one_on}
use Rattle.judge_search.specs.Configurations.{answered}
use Rattle.judge_search.specs.Frontier.{node_at, AreUnfinished, KeepsAll}
use Rattle.judge_search.proofs.Fronts.{keeps_none, keeps_more}
use Rattle.judge_search.proofs.frontier.keep_all.Goals as goal

pub nodes-init : goal.nodes-init
nodes-init g c =
    let X = g.M.Object.rules in
    let calls = c.args.calls.now in
    record {
      all = sym c.into_iter-node-iterator.ensures.into_iter_gives.0;
      keeps = keeps_none X calls c.args.front.now;
      left = All-nil (λ node. 1 ≤ answered (node_at X calls node).rest);
    }

pub nodes-preserved : goal.nodes-preserved
nodes-preserved g c =
    let X = g.M.Object.rules in
    let calls = c.args.calls.now in
    record {
      all = one_on _ _ _ _ _ c.nodes.invariant.all c.in-Some.ensures.steps.0;
      keeps = keeps_more X calls c.nodes.yielded c.in-Some.node c.args.front.now c.nodes.front c.keep.new.self
          c.nodes.invariant.keeps (c.in_ok-keep.ensures calls);
      left = All-push (λ node. 1 ≤ answered (node_at X calls node).rest) c.nodes.yielded c.in-Some.node
          c.nodes.invariant.left (c.is_done.ensures.left.1 c.if-is_done.false);
    }

pub returns : goal.returns
returns g c = λ none.
    let X = g.M.Object.rules in
    let calls = c.args.calls.now in
    let all = all_met _ _ c.nodes.node-iterator c.nodes.invariant.all c.in-None.ensures.steps.0 in (
      subst (λ nodes. KeepsAll X calls nodes c.args.front.now c.nodes.front) all c.nodes.invariant.keeps,
      subst (AreUnfinished X calls) all c.nodes.invariant.left,
    )
