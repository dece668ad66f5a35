use Rattle.std.proofs.Common.{refl, ◌+◌}
use Rattle.load_record.proofs.Pieces.{word_laid}
use Rattle.load_record.proofs.laying.lay_some.Goals as goal

pub loop-place-preserved : goal.loop-place-preserved
loop-place-preserved c =
    word_laid c.args.first c.loop-place.place (c.args.first + c.loop-place.place) _ c.args.words.now _ _
    c.loop-place-test.true refl refl c.loop-place.invariant c.in_ok-lay_word.ensures
