use Rattle.std.proofs.Common.{◌≡◌, replicate}
use Rattle.stm_region.proofs.layout.lay_out.Given as goal

abbrev pub invariant-loop-k : goal.invariant-loop-k
invariant-loop-k g l = l.words.items ≡ replicate l._k 0
