use Rattle.std.proofs.Common.{◌≡◌, ◌++◌, length}
use Rattle.std.specs.Vec.Iter.{into_iter_items}
use Rattle.judge_text.specs.Classing.{object_of, for_object}
use Rattle.judge_text.proofs.Grouping.{AreSoFar}
use Rattle.judge_text.proofs.runs.runs_of.Given as goal

abbrev pub invariant-loop-line : goal.invariant-loop-line
invariant-loop-line g l = record {
  all : l.fn.lines.items ≡ l.yielded ++ into_iter_items l.line-iterator;
  at : l.place ≡ length l.yielded;
  long : length l.runs.items ≡ length l.own.items;
  each : AreSoFar (for_object (object_of l.names) (g.M.Named.name)) l.own.items l.yielded l.runs.items;
}
