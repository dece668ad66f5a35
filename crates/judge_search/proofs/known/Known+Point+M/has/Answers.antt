use Rattle.std.proofs.Common.{map, subst}
use Rattle.std.specs.List.{Contains}
use Rattle.judge_search.specs.Point.{point_at}
use Rattle.judge_search.proofs.known.Known+Point+M.has.Goals as goal

pub returns-then-is_at : goal.returns-then-is_at
returns-then-is_at g c = λ yes calls.
    let at = point_at (g.M.Object.rules) calls in
    subst (λ points. Contains (map at points) (at c.args.point.now)) c.as_slice.ensures.value
    (c.is_at.ensures c.if-is_at.true calls)
