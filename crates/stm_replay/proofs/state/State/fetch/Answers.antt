use Rattle.std.proofs.Common.{refl, ap}
use Rattle.stm_core.specs.Event.{fetch}
use Rattle.stm_replay.specs.Running.{Running}
use Rattle.stm_replay.specs.StateView.{running_of}
use Rattle.stm_replay.proofs.Stepping.{acts_is}
use Rattle.stm_replay.proofs.state.State.fetch.Goals as goal

pub returns-clause-done : goal.returns-clause-done
returns-clause-done g c = acts_is c.self.inside c.args.self.now c.args.client
    (fetch c.args.address) c.cell-value.result c.in_ok-events.events c.index_mut-seat.result.now c.fetch.new.self
    (running_of c.self.inside).core c.self.inside.order c.self.view_is c.requires.there.inside
    c.index_mut-seat.ensures.value c.cell-value.ensures c.in_ok-events.ensures c.fetch.ensures refl
    (ap (λ (x : Running). x.order) c.self.view_is)
