use Rattle.std.proofs.Common.{◌≡◌, ◌++◌, length}
use Rattle.vac_lines.specs.Lines.{words_of, texts}
use Rattle.judge_text.proofs.words.split_words.Given as goal

abbrev pub invariant-words : goal.invariant-words
invariant-words l = words_of l.line ≡ texts l.words.items ++ words_of l.rest

abbrev pub decreases-words : goal.decreases-words
decreases-words l = length l.rest
