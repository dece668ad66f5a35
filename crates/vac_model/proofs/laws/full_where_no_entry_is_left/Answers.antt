use Rattle.vac_model.proofs.Refused.{step_full, full_step}
use Rattle.vac_model.proofs.laws.full_where_no_entry_is_left.Goals as goal

pub returns-clause-only : goal.returns-clause-only
returns-clause-only c = step_full

pub returns-clause-always : goal.returns-clause-always
returns-clause-always c = full_step
