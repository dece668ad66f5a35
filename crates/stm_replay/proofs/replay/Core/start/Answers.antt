use Rattle.std.proofs.Common.{sym, subst}
use Rattle.stm_replay.specs.Follows.{IsReached}
use Rattle.stm_replay.proofs.Following.{reached_opening}
use Rattle.stm_replay.proofs.replay.Core.start.Goals as goal

pub invariant_of-result : goal.invariant_of-result
invariant_of-result g c = subst IsReached (sym c.in_ok-state.ensures)
    (reached_opening c.args.image.now c.args.last c.args.stripes c.requires.versions.1 c.requires.locks.0)
