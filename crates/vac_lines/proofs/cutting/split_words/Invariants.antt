use Rattle.std.proofs.Common.{◌≡◌, ◌≤◌, ◌++◌, length, map}
use Rattle.vac_lines.specs.Lines.{words_of}
use Rattle.vac_lines.proofs.cutting.split_words.Given as goal

-- the words so far and those of the rest are the words of the line
abbrev pub invariant-loop-word : goal.invariant-loop-word
invariant-loop-word l = record {
  words : words_of l.line ≡ map (λ w. w.now) l.words.items ++ words_of l.rest;
  inline : length l.words.items ≤ 8 → l.words.capacity ≡ 8;
}

abbrev pub decreases-loop-word : goal.decreases-loop-word
decreases-loop-word l = length l.rest
