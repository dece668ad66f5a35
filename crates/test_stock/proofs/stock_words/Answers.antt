use Rattle.std.proofs.Common.{length-set, ◌∙◌}
use Rattle.test_stock.proofs.Stocked.{word_written}
use Rattle.test_stock.proofs.stock_words.Goals as goal

pub loop-place-preserved : goal.loop-place-preserved
loop-place-preserved c = record {
  size = length-set _ _ _ ∙ c.loop-place.invariant.size;
  written = word_written _ _ _ c.loop-place.invariant.size c.loop-place-test.true c.loop-place.invariant.written
      c.word_at.ensures;
}
