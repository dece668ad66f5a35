use Rattle.test_stock.proofs.Stocked.{stock_flat}
use Rattle.test_heap.proofs.bookings.random_changes_beside_an_ordered_map.Goals as goal

pub loop-init : goal.loop-init
loop-init g c = stock_flat _ _ c.new-flat.ensures c.in_ok-words.ensures
