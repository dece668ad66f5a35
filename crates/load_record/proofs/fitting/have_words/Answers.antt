use Rattle.std.proofs.Common.{refl, sym}
use Rattle.load_record.specs.Entries.{FitsAccess, is_at_word}
use Rattle.load_record.proofs.ShortLines.{passed_more, all_more}
use Rattle.load_record.proofs.fitting.have_words.Goals as goal

pub loop-access-preserved : goal.loop-access-preserved
loop-access-preserved c =
    let xs = c.args.accesses.now in
    let i = c.loop-access.access-index in
    let has = c.if-not-has_word.ensures in
    record {
      words = passed_more (λ access. is_at_word c.args.words access) xs i _ c.loop-access-test.true
          c.loop-access.invariant.words (sym has.word);
      fits = all_more (λ access. FitsAccess c.args.words access) xs i _ c.loop-access-test.true
          c.loop-access.invariant.fits (has.fits refl);
    }
