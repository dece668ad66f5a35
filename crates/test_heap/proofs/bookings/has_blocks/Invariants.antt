use Rattle.std.proofs.Common.{◌≡◌, ℕ, Some}
use Rattle.vac_bookings.specs.Lists.{HasBooking}
use Rattle.test_stock.specs.Stock.{HasStock}
use Rattle.test_heap.proofs.bookings.has_blocks.Given as goal

abbrev pub invariant-loop-block : goal.invariant-loop-block
invariant-loop-block g l = record {
  origin : g.M.TxRead.origin l.memory ≡ g.M.TxRead.origin l.initial.memory;
  stock : HasStock (g.M.TxRead.view l.memory);
  booking : (b : ℕ) → l.found ≡ Some b → HasBooking (g.M.TxRead.view l.memory) b;
}
