use Rattle.std.proofs.Common.{length}
use Rattle.stm_replay.proofs.pairs.+behind.Given as goal

abbrev pub decreases-behind : goal.decreases-behind
decreases-behind l = length l.pairs.now
