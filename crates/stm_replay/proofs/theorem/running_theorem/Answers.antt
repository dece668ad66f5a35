use Rattle.stm_replay.proofs.Following.{running_follows}
use Rattle.stm_replay.proofs.theorem.running_theorem.Goals as goal

pub returns : goal.returns
returns c = running_follows
