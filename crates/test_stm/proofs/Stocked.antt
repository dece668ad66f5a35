-- The memory of the tests of lists, at the opening of a region and in an attempt that begins.
use Rattle.std.proofs.Common.{◌≡◌, ℕ, List, length, slice_index}
use Rattle.tx_memory.specs.View.{View}
use Rattle.test_stock.specs.Stock.{IsStock, IsStocked, HasStock}
use Rattle.test_stock.proofs.Stocked.{stock_start}
use Rattle.test_stm.specs.Laws.{Fits, HoldsUnder}

pub stock_fits : (xs ys : List ℕ) → ys ≡ xs → IsStock xs → Fits IsStocked ys
stock_fits xs ys e h = rw e (stock_start (λ (a : ℕ). slice_index xs a) (length xs) h.0 h.1)

-- an attempt that begins
pub stock_held : (s : View) → HoldsUnder IsStocked 976 s → HasStock s
stock_held s h = record { size = h.size_is; under = λ image i. h.under image i.sees }
