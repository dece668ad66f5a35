use Rattle.std.proofs.Common.{arith}
use Rattle.test_stm.proofs.Owned.{customer_held, customer_made, no_list, none_node, none_read, booked}
use Rattle.test_stm.proofs.customers.make_customer.Goals as goal

pub init_customer-requires : goal.init_customer-requires
init_customer-requires g c = customer_held _ c.requires.sized

pub spot_of-requires-clause-customer : goal.spot_of-requires-clause-customer
spot_of-requires-clause-customer g c = none_node _ (customer_made _ _ _ c.requires.sized
    c.in_ok-init_customer.ensures.answer) 24 (omega arith)

pub spot_of-requires-clause-list : goal.spot_of-requires-clause-list
spot_of-requires-clause-list g c = no_list _ (customer_made _ _ _ c.requires.sized c.in_ok-init_customer.ensures.answer)

pub book_at-requires-clause-block : goal.book_at-requires-clause-block
book_at-requires-clause-block g c = none_node _ (none_read _ _ (customer_made _ _ _ c.requires.sized
    c.in_ok-init_customer.ensures.answer) c.in_ok-spot.ensures.answer.kept c.in_ok-spot.ensures.answer.writes)
    32 (omega arith)

pub returns-clause-booking : goal.returns-clause-booking
returns-clause-booking g c = booked _ _ _ _ 3 50 _ (customer_made _ _ _ c.requires.sized
    c.in_ok-init_customer.ensures.answer) c.in_ok-spot.ensures.answer c.in_ok-book_at.ensures.answer
