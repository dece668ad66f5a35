use Rattle.std.proofs.Common.{◌≡◌, length}
use Rattle.judge_opacity.specs.Covered.{uncovered}
use Rattle.judge_opacity.proofs.Covering.{RunTo}
use Rattle.judge_opacity.proofs.memory.Memory.run.Given as goal

-- what was done so far leaves these words, and the rest is still to be done
abbrev pub invariant-loop-access : goal.invariant-loop-access
invariant-loop-access l = record {
  run : RunTo l.fn.self.words.items l.self.words.items l.accesses l.rest;
  covered : uncovered l.self.covered.items l.self.words.items ≡ uncovered l.fn.self.covered.items l.fn.self.words.items;
}

abbrev pub decreases-loop-access : goal.decreases-loop-access
decreases-loop-access l = length l.rest
