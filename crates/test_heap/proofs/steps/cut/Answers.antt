use Rattle.tx_memory.specs.Plain.{flat_view}
use Rattle.tx_tree.specs.Table.{Removed}
use Rattle.tx_tree.proofs.Counting.{after_cut}
use Rattle.test_heap.proofs.steps.cut.Goals as goal

pub returns-in-Some : goal.returns-in-Some
returns-in-Some c =
    let r : Removed (flat_view c.args.flat.now) (flat_view c.remove.new.memory) 3 c.args.key c.in-Some.block =
    rw c.in-Some.is at c.in-Ok.ensures.answer in
    rw c.saturating_sub.ensures (after_cut _ _ _ _ _ _ _ c.requires r)
