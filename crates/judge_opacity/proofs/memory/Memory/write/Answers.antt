use Rattle.std.proofs.Common.{ap, ◌∙◌}
use Rattle.judge_opacity.specs.Covered.{image_of}
use Rattle.judge_opacity.proofs.Covering.{written}
use Rattle.judge_opacity.proofs.memory.Memory.write.Goals as goal

pub returns-clause-covered : goal.returns-clause-covered
returns-clause-covered c =
    written _ _ _ _ c.args.word c.args.value c.word_of-covered.result c.in_ok-push.ensures.items
    (c.word_of-covered.ensures ∙ ap (λ w. image_of w c.args.word) c.as_slice.ensures.value) c.set_word.ensures
