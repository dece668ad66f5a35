use Rattle.std.proofs.Common.{refl, ap, ◌∙◌}
use Rattle.stm_core.specs.Event.{begin}
use Rattle.stm_replay.specs.Seat.{seat_after}
use Rattle.stm_replay.specs.Running.{Running}
use Rattle.stm_replay.specs.StateView.{running_of}
use Rattle.stm_replay.proofs.Stepping.{acts_is}
use Rattle.stm_replay.proofs.state.State.begin.Goals as goal

pub returns-clause-done : goal.returns-clause-done
returns-clause-done g c = acts_is c.self.inside c.args.self.now c.args.client begin c.self.inside.clock
    c.in_ok-events.events c.index_mut-seat.result.now c.begin.new.self
    (running_of c.self.inside).core c.self.inside.order c.self.view_is c.requires.there.inside
    c.index_mut-seat.ensures.value (ap (λ (x : Running). x.core.clock) c.self.view_is) c.in_ok-events.ensures
    (c.begin.ensures ∙ ap (λ (r : Running). seat_after r.core.events begin c.self.inside.clock
    c.index_mut-seat.result.now) c.self.view_is) refl (ap (λ (x : Running). x.order) c.self.view_is)
