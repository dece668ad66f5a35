use Rattle.vac_bookings.proofs.Reading.{first_booking}
use Rattle.test_stock.proofs.Stocked.{stock_list, stock_read}
use Rattle.test_stm.proofs.lists.first_and_next.Goals as goal

pub next-requires : goal.next-requires
next-requires g c = record {
  booking = first_booking _ _ _ _ _ (stock_list _
      c.requires.stock) c.in_ok-one.ensures.answer c.in-Some.is;
}

pub returns-in_ok-two-in-Some-clause-stock : goal.returns-in_ok-two-in-Some-clause-stock
returns-in_ok-two-in-Some-clause-stock g c =
    stock_read _ _ c.in_ok-two-in-Some.ensures.answer.kept c.in_ok-two-in-Some.ensures.answer.writes
    (stock_read _ _ c.in_ok-one.ensures.answer.kept c.in_ok-one.ensures.answer.writes c.requires.stock)
