use Rattle.std.proofs.Common.{refl, ap, [], ◌∷◌}
use Rattle.stm_core.specs.Event.{finish}
use Rattle.stm_replay.specs.Running.{Running}
use Rattle.stm_replay.specs.StateView.{running_of}
use Rattle.stm_replay.proofs.Stepping.{acts_is, finished_order}
use Rattle.stm_replay.proofs.state.State.finish.Goals as goal

pub returns-clause-done : goal.returns-clause-done
returns-clause-done g c = acts_is c.self.inside c.args.self.now c.args.client
    (finish (c.args.tag ∷ [])) c.self.inside.clock c.in_ok-events.events c.index_mut-seat.result.now c.finish.new.self
    (running_of c.self.inside).core c.enter.new.self c.self.view_is c.requires.there.inside
    c.index_mut-seat.ensures.value (ap (λ (x : Running). x.core.clock) c.self.view_is) c.in_ok-events.ensures
    c.finish.ensures refl (finished_order c.self.inside c.args.self.now c.args.client c.self.inside.clock c.args.tag
    c.read_version.result c.began_at-place.result c.seat-seat.result.now c.enter.new.self c.self.view_is
    c.seat-seat.ensures c.read_version.ensures c.began_at-place.ensures c.in_ok-enter.ensures.done)
