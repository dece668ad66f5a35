use Rattle.std.proofs.Common.{rules}
use Rattle.stm_replay.proofs.Stepping.{renews_is}
use Rattle.stm_replay.proofs.state.State.renew.Goals as goal

pub returns-clause-done : goal.returns-clause-done
returns-clause-done g c = renews_is c.self.inside c.args.self.now c.args.client c.args.last c.in_ok-events.events
    c.in_ok-locks.locks.items c.index_mut-seat.result.now c.renew.new.self c.self.view_is c.self.invariant.stripes
    c.requires.there.inside c.index_mut-seat.ensures.value c.in_ok-events.ensures c.renew.ensures
    (c.in_ok-locks.ensures.items_if_clones_equal (λ y e. search rules))
