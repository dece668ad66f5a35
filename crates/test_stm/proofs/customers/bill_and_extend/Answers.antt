use Rattle.std.proofs.Common.{arith}
use Rattle.test_stm.proofs.Owned.{booking_node, can_bill, one_read, can_extend, extended_booking}
use Rattle.test_stm.proofs.customers.bill_and_extend.Goals as goal

pub bill-requires : goal.bill-requires
bill-requires g c = can_bill _ _ _ _ c.requires.booking (omega arith)

pub book_more-requires-clause-node : goal.book_more-requires-clause-node
book_more-requires-clause-node g c = booking_node _ _ _ _ (one_read _ _ _ _ c.requires.booking _
    c.in_ok-total.ensures.answer.kept c.in_ok-total.ensures.answer.writes)

pub book_more-requires-clause-room : goal.book_more-requires-clause-room
book_more-requires-clause-room g c =
    can_extend _ _ _ _ (one_read _ _ _ _ c.requires.booking _ c.in_ok-total.ensures.answer.kept
    c.in_ok-total.ensures.answer.writes) 2 80 (omega arith) (omega arith)

pub returns-clause-booking : goal.returns-clause-booking
returns-clause-booking g c =
    extended_booking _ _ _ _ (one_read _ _ _ _ c.requires.booking _ c.in_ok-total.ensures.answer.kept
    c.in_ok-total.ensures.answer.writes) _ 2 80 c.in_ok-book_more.ensures.answer
