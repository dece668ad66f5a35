use Rattle.std.proofs.Common.{arith}
use Rattle.vac_records.proofs.Written.{customer_made}
use Rattle.vac_records.proofs.customer.init_customer.Goals as goal

pub returns-clause-answer : goal.returns-clause-answer
returns-clause-answer g c =
    customer_made _ _ _ _ _ _ _ _ (omega (arith, c.word.ensures)) c.word-2.ensures
    c.in_ok-store.ensures.answer c.in_ok-store-2.ensures.answer c.in_ok-clear_spare.ensures.answer
