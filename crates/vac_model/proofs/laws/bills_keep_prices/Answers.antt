use Rattle.vac_model.proofs.Settled.{billed, bookings-add}
use Rattle.vac_model.proofs.laws.bills_keep_prices.Goals as goal

pub returns-clause-reserved : goal.returns-clause-reserved
returns-clause-reserved c = λ s k kind id num bookings item h there. billed s k kind id num bookings item h there

pub returns-clause-priced_anew : goal.returns-clause-priced_anew
returns-clause-priced_anew c = bookings-add
