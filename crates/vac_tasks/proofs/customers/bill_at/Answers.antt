use Rattle.vac_tasks.proofs.Billing.{can_bill, bill_found}
use Rattle.vac_tasks.proofs.customers.bill_at.Goals as goal

pub bill-requires : goal.bill-requires
bill-requires g c = can_bill _ _ _ c.requires.state c.requires.customer

pub returns-clause-answer : goal.returns-clause-answer
returns-clause-answer g c = bill_found _ _ _ _ _ c.requires.customer.some c.in_ok-bill.ensures.answer
