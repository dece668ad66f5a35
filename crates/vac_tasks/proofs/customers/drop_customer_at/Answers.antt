use Rattle.vac_tasks.proofs.Parting.{bare, given_holds, dropped}
use Rattle.vac_tasks.proofs.customers.drop_customer_at.Goals as goal

pub give_bookings_back-requires : goal.give_bookings_back-requires
give_bookings_back-requires g c = record {
  state = c.requires.state;
  customer = c.requires.customer;
  range = c.requires.range;
}

pub remove_customer-requires-clause-state : goal.remove_customer-requires-clause-state
remove_customer-requires-clause-state g c = given_holds _ _ _ _ _ c.requires.state c.requires.customer
    c.in_ok-give_bookings_back.ensures.answer

pub remove_customer-requires-clause-bare : goal.remove_customer-requires-clause-bare
remove_customer-requires-clause-bare g c = bare _ _ _ _ c.requires.state c.requires.customer
    c.in_ok-give_bookings_back.ensures.answer

pub returns-clause-answer : goal.returns-clause-answer
returns-clause-answer g c =
    dropped _ _ _ _ _ c.requires.range c.in_ok-give_bookings_back.ensures.answer c.in_ok-remove_customer.ensures.answer
