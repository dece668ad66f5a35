use Rattle.std.proofs.Common.{◌∙◌, ap, sym, subst, ◌<◌}
use Rattle.std.proofs.lemmas.List.{get_or-map, length-map}
use Rattle.judge_search.specs.Point.{point_at}
use Rattle.judge_search.proofs.known.is_at.Goals as goal

pub returns-then-is_same : goal.returns-then-is_same
returns-then-is_same g c = λ yes calls.
    let at = point_at (g.M.Object.rules) calls in
    let points = c.args.points.now in
    let place = c.args.place in
    let found = c.index-points-place.result in (
      place,
      subst (λ n. place < n) (sym (length-map points at)) c.if-place-points.true,
      get_or-map at points place found (at c.args.point.now) c.if-place-points.true
          ∙ ap at (sym c.index-points-place.is) ∙ c.is_same.ensures c.if-is_same.true calls,
    )
