use Rattle.test_stm.proofs.Tabled.{table_fits}
use Rattle.test_stm.proofs.tables.table_region.Goals as goal

pub new-requires : goal.new-requires
new-requires c = table_fits _ _ c.as_slice.ensures.value c.in_ok-words.ensures
