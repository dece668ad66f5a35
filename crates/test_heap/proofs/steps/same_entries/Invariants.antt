use Rattle.tx_memory.specs.Plain.{flat_view}
use Rattle.test_heap.proofs.Walked.{Walking}
use Rattle.test_heap.proofs.steps.same_entries.Given as goal

abbrev pub invariant-loop-key : goal.invariant-loop-key
invariant-loop-key l = Walking (flat_view l.flat) l.blocks l.count l.walk
