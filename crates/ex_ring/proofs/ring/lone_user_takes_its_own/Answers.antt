use Rattle.ex_ring.proofs.Own.{own_turn}
use Rattle.ex_ring.proofs.ring.lone_user_takes_its_own.Goals as goal

pub returns : goal.returns
returns c = own_turn
