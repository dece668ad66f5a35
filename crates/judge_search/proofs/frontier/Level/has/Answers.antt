use Rattle.std.proofs.Common.{map, subst}
use Rattle.std.specs.List.{Contains}
use Rattle.judge_search.specs.Point.{point_at}
use Rattle.judge_search.specs.Frontier.{node_at}
use Rattle.judge_search.proofs.frontier.Level.has.Goals as goal

pub returns-then-is_node_at : goal.returns-then-is_node_at
returns-then-is_node_at g c = λ yes calls.
    let X = g.M.Object.rules in
    subst (λ nodes. Contains (map (node_at X calls) nodes) (point_at X calls c.args.point.now))
    c.as_slice.ensures.value (c.is_node_at.ensures c.if-is_node_at.true calls)
