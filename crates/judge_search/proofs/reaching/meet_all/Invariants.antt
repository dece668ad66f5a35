use Rattle.std.proofs.Common.{◌≡◌, ◌++◌}
use Rattle.std.specs.Vec.Iter.{into_iter_items}
use Rattle.judge_search.specs.declared.calls.Calls.{Calls}
use Rattle.judge_search.specs.Point.{point_at}
use Rattle.judge_search.specs.Reaching.{AddsNew}
use Rattle.judge_search.proofs.reaching.meet_all.Given as goal

abbrev pub invariant-points : goal.invariant-points
invariant-points g l = record {
  all : l.fn.points.items ≡ l.yielded ++ into_iter_items l.point-iterator;
  adds : (calls : Calls _) → AddsNew (point_at (g.M.Object.rules) calls) l.yielded l.fn.known.points.items
      l.known.points.items;
}
