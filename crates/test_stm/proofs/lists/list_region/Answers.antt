use Rattle.test_stm.proofs.Stocked.{stock_fits}
use Rattle.test_stm.proofs.lists.list_region.Goals as goal

pub new-requires : goal.new-requires
new-requires c = stock_fits _ _ c.as_slice.ensures.value c.in_ok-words.ensures
