use Rattle.stm_core.proofs.Spending.{spent_clock_decides_none}
use Rattle.stm_core.proofs.causation.a_spent_clock_decides_no_writer.Goals as goal

pub returns : goal.returns
returns g c = spent_clock_decides_none g.L.Law.lawful
