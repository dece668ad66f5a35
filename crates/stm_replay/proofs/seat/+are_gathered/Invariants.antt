use Rattle.std.proofs.Common.{length}
use Rattle.stm_replay.proofs.seat.+are_gathered.Given as goal

abbrev pub decreases-are_gathered : goal.decreases-are_gathered
decreases-are_gathered g l = length l.seats.now
