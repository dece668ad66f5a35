use Rattle.std.proofs.Common.{length}
use Rattle.tx_memory.specs.Plain.{flat_view}
use Rattle.tx_tree.specs.Counted.{HasEntries}
use Rattle.test_heap.proofs.steps.play.Given as goal

abbrev pub invariant-loop-step : goal.invariant-loop-step
invariant-loop-step l = HasEntries (flat_view l.flat) 3 (length l.keys) l.count
