use Rattle.std.proofs.Common.{length}
use Rattle.stm_replay.proofs.seat.+others_gathered.Given as goal

abbrev pub decreases-others_gathered : goal.decreases-others_gathered
decreases-others_gathered g l = length l.seats.now
