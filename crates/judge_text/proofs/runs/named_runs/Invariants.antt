use Rattle.std.proofs.Common.{◌≡◌, ◌++◌, length}
use Rattle.std.specs.Vec.Iter.{into_iter_items}
use Rattle.judge_text.specs.Runs.{AreNamedRuns}
use Rattle.judge_text.proofs.runs.named_runs.Given as goal

abbrev pub invariant-loop-run : goal.invariant-loop-run
invariant-loop-run g l = record {
  all : l.fn.runs.items ≡ l.yielded ++ into_iter_items l.run-iterator;
  at : l.number ≡ length l.yielded;
  named : AreNamedRuns l.names l.yielded l.named;
}
