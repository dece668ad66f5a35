use Rattle.test_stock.proofs.Stocked.{stock_flat}
use Rattle.test_stm.proofs.lists.a_list_of_plain_memory_and_of_a_region.Goals as goal

pub change-requires : goal.change-requires
change-requires g c = record { stock = stock_flat _ _ c.new-flat.ensures c.in_ok-words.ensures }
