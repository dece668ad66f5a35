use Rattle.test_stm.proofs.Tabled.{table_cut}
use Rattle.test_stm.proofs.tables.cut.Goals as goal

pub returns-in-Some-clause-table : goal.returns-in-Some-clause-table
returns-in-Some-clause-table g c =
    rw c.saturating_sub.ensures (table_cut _ _ _ _ c.in_ok-removed.removed c.in-Some.block c.requires.table c.in-Some.is
    c.in_ok-removed.ensures.answer)
