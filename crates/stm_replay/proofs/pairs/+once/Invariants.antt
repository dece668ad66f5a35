use Rattle.std.proofs.Common.{length}
use Rattle.stm_replay.proofs.pairs.+once.Given as goal

abbrev pub decreases-once : goal.decreases-once
decreases-once l = length l.pairs.now
