use Rattle.judge_reservations.proofs.Cuts.{word_behind}
use Rattle.judge_reservations.proofs.words.join_words.Goals as goal

pub loop-word-preserved : goal.loop-word-preserved
loop-word-preserved c =
    word_behind _ _ _ _ c.args.rest.now c.loop-word.word-index _ c.loop-word-test.true c.loop-word.invariant
    c.in_ok-push.ensures.items c.in_ok-extend_from_slice.ensures.items
