use Rattle.std.proofs.Common.{◌≡◌, length}
use Rattle.judge_opacity.specs.Covered.{uncovered}
use Rattle.judge_opacity.proofs.memory.Memory.undo.Given as goal

-- what is still covered is given back to these words
abbrev pub invariant-loop-covered : goal.invariant-loop-covered
invariant-loop-covered l = uncovered l.self.covered.items l.self.words.items ≡ uncovered l.fn.self.covered.items
    l.fn.self.words.items

abbrev pub decreases-loop-covered : goal.decreases-loop-covered
decreases-loop-covered l = length l.self.covered.items
