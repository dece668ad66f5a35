use Rattle.std.proofs.Common.{◌≡◌, ◌++◌, take}
use Rattle.vac_lines.specs.Lines.{texts}
use Rattle.vac_model.specs.TaskText.{spaced}
use Rattle.judge_reservations.proofs.words.join_words.Given as goal

-- the words so far
abbrev pub invariant-loop-word : goal.invariant-loop-word
invariant-loop-word l = l.text.items ≡ l.first ++ spaced (texts (take l.word-index l.rest))
