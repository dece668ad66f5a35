use Rattle.tx_memory.specs.Plain.{flat_view}
use Rattle.test_stock.specs.Stock.{HasStock}
use Rattle.test_heap.proofs.bookings.random_changes_beside_an_ordered_map.Given as goal

abbrev pub invariant-loop : goal.invariant-loop
invariant-loop g l = HasStock (flat_view l.flat)
