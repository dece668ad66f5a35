use Rattle.std.proofs.Common.{◌≡◌, length}
use Rattle.judge_opacity.specs.Attempt.{accesses_of}
use Rattle.judge_opacity.specs.Parts.{words_left, put_before, AllAmong}
use Rattle.judge_opacity.proofs.accesses.read_accesses.Given as goal

-- the accesses so far and those of what is left are those of the text
abbrev pub invariant-loop-kind : goal.invariant-loop-kind
invariant-loop-kind l = record {
  same : accesses_of l.words (words_left l.text) ≡ put_before l.accesses.items
      (accesses_of l.words (words_left l.left));
  among : AllAmong l.words l.accesses.items;
}

abbrev pub decreases-loop-kind : goal.decreases-loop-kind
decreases-loop-kind l = length (words_left l.left)
