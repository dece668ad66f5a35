use Rattle.std.proofs.Common.{◌∙◌, ap}
use Rattle.judge_opacity.specs.Parts.{words_left}
use Rattle.judge_opacity.proofs.Parsing.{word_first, one_word}
use Rattle.judge_opacity.proofs.words.next_word.Goals as goal

pub returns-in-Some : goal.returns-in-Some
returns-in-Some c = ap words_left c.in_ok-text.was ∙ word_first _ _ _ c.in-Some.ensures.0 c.in-Some.ensures.1

pub returns-in-None : goal.returns-in-None
returns-in-None c = ap words_left c.in_ok-text.was ∙ one_word _ c.in-None.ensures
