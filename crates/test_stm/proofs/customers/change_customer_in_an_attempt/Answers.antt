use Rattle.test_stm.specs.Records.{IsSized}
use Rattle.test_stm.proofs.Begun.{held_begun}
use Rattle.test_stm.proofs.customers.change_customer_in_an_attempt.Goals as goal

pub change_customer-requires : goal.change_customer-requires
change_customer-requires c = record {
  sized = held_begun (λ m n. IsSized m n) 96 _ _ _ _ _ c.begin-attempt.ensures.empty.2 c.begin-attempt.ensures.region
      c.requires.size c.begin-attempt.ensures.empty.1;
}
