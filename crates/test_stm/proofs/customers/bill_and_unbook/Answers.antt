use Rattle.std.proofs.Common.{arith}
use Rattle.test_stm.proofs.Owned.{customer_node, one_list, can_bill, one_read}
use Rattle.test_stm.proofs.customers.bill_and_unbook.Goals as goal

pub bill-requires : goal.bill-requires
bill-requires g c = can_bill _ _ _ _ c.requires.booking (omega arith)

pub spot_of-requires-clause-customer : goal.spot_of-requires-clause-customer
spot_of-requires-clause-customer g c =
    customer_node _ _ _ _ (one_read _ _ _ _ c.requires.booking _ c.in_ok-total.ensures.answer.kept
    c.in_ok-total.ensures.answer.writes)

pub spot_of-requires-clause-list : goal.spot_of-requires-clause-list
spot_of-requires-clause-list g c =
    one_list _ _ _ _ (one_read _ _ _ _ c.requires.booking _ c.in_ok-total.ensures.answer.kept
    c.in_ok-total.ensures.answer.writes)

pub unbook_at-requires-clause-small : goal.unbook_at-requires-clause-small
unbook_at-requires-clause-small g c = omega (
  arith,
  c.requires.booking.size,
  c.in_ok-total.ensures.answer.kept.size,
  c.in_ok-spot.ensures.answer.kept.size,
)
