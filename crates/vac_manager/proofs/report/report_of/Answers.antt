use Rattle.vac_manager.proofs.Words.{fitting_holds, reports}
use Rattle.vac_manager.proofs.report.report_of.Goals as goal

pub report-requires : goal.report-requires
report-requires c = fitting_holds _ _ c.new-flat.ensures c.requires

pub returns : goal.returns
returns c = reports _ _ _ _ c.new-flat.ensures c.in-Ok.ensures.answer
