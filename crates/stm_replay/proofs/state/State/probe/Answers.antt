use Rattle.std.proofs.Common.{refl, ap}
use Rattle.stm_core.specs.Event.{probe}
use Rattle.stm_replay.specs.Running.{Running}
use Rattle.stm_replay.specs.StateView.{running_of}
use Rattle.stm_replay.proofs.Stepping.{acts_is}
use Rattle.stm_replay.proofs.state.State.probe.Goals as goal

pub returns-clause-done : goal.returns-clause-done
returns-clause-done g c = acts_is c.self.inside c.args.self.now c.args.client
    (probe c.args.stripe) c.lock_word-word.result c.in_ok-events.events c.index_mut-seat.result.now c.probe.new.self
    (running_of c.self.inside).core c.self.inside.order c.self.view_is c.requires.there.inside
    c.index_mut-seat.ensures.value c.lock_word-word.ensures c.in_ok-events.ensures c.probe.ensures refl
    (ap (λ (x : Running). x.order) c.self.view_is)
