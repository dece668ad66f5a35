use Rattle.vac_model.proofs.Totals.{used_booked}
use Rattle.vac_model.proofs.laws.used_units_are_booked.Goals as goal

pub returns : goal.returns
returns c = used_booked
