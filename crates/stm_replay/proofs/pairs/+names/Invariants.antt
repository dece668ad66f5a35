use Rattle.std.proofs.Common.{length}
use Rattle.stm_replay.proofs.pairs.+names.Given as goal

abbrev pub decreases-names : goal.decreases-names
decreases-names l = length l.pairs.now
