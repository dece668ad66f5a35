use Rattle.std.proofs.Common.{◌∙◌, sym, subst, ◌<◌}
use Rattle.std.proofs.lemmas.List.{get_or-map, length-map}
use Rattle.judge_search.specs.Frontier.{node_at}
use Rattle.judge_search.specs.Point.{point_at}
use Rattle.judge_search.proofs.frontier.is_node_at.Goals as goal

pub returns-then-is_same : goal.returns-then-is_same
returns-then-is_same g c = λ yes calls.
    let at = node_at g.M.Object.rules calls in
    let nodes = c.args.nodes.now in
    let place = c.args.place in
    let found = c.index-nodes-place.result in (
      place,
      subst (λ n. place < n) (sym (length-map nodes at)) c.if-place-nodes.true,
      get_or-map at nodes place found (point_at g.M.Object.rules calls c.args.point.now) c.if-place-nodes.true
          ∙ c.is_same.ensures c.if-is_same.true calls,
    )
