use Rattle.std.proofs.Common.{◌≡◌, ◌++◌}
use Rattle.std.specs.Vec.Iter.{into_iter_items}
use Rattle.judge_search.specs.Point.{point_at}
use Rattle.judge_search.specs.Reaching.{AreFinal}
use Rattle.judge_search.proofs.reaching.final_states.Given as goal

abbrev pub invariant-points : goal.invariant-points
invariant-points g l = record {
  all : l.fn.points.items ≡ l.yielded ++ into_iter_items l.point-iterator;
  are : AreFinal (point_at (g.M.Object.rules) l.calls) l.yielded l.states.items;
}
