use Rattle.test_stm.proofs.Tabled.{table_flat}
use Rattle.test_stm.proofs.tables.a_table_of_plain_memory_and_of_a_region.Goals as goal

pub change-requires : goal.change-requires
change-requires g c = record { table = table_flat _ _ c.new-flat.ensures c.in_ok-words.ensures }
