use Rattle.std.proofs.Common.{◌≡◌, ℕ, ◌<◌, length, get_or}
use Rattle.test_stock.specs.Stock.{stock_word}
use Rattle.test_stock.proofs.stock_words.Given as goal

abbrev pub invariant-loop-place : goal.invariant-loop-place
invariant-loop-place l = record {
  size : length l.words.items ≡ 976;
  written : (k : ℕ) → k < l.place → get_or l.words.items k 0 ≡ stock_word k;
}
