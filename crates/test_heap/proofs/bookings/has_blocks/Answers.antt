use Rattle.std.proofs.Common.{◌∙◌}
use Rattle.vac_bookings.proofs.Reading.{next_booking}
use Rattle.test_stock.proofs.Stocked.{stock_read}
use Rattle.test_heap.proofs.bookings.has_blocks.Goals as goal

pub loop-block-preserved : goal.loop-block-preserved
loop-block-preserved g c = record {
  origin = c.in_ok-found-in-Some.ensures.origin ∙ c.loop-block.invariant.origin;
  stock = stock_read _ _ c.in_ok-found-in-Some.ensures.answer.kept c.in_ok-found-in-Some.ensures.answer.writes
      c.loop-block.invariant.stock;
  booking = λ b e. next_booking _ _ _ _ b (c.loop-block.invariant.booking c.in-Some.here c.in-Some.is)
      c.in_ok-found-in-Some.ensures.answer e;
}
