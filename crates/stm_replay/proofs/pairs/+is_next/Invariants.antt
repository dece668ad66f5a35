use Rattle.std.proofs.Common.{length}
use Rattle.stm_replay.proofs.pairs.+is_next.Given as goal

abbrev pub decreases-is_next : goal.decreases-is_next
decreases-is_next l = length l.reads.now
