use Rattle.std.proofs.Common.{refl, ap}
use Rattle.stm_core.specs.Event.{check}
use Rattle.stm_replay.specs.Running.{Running}
use Rattle.stm_replay.specs.StateView.{running_of}
use Rattle.stm_replay.proofs.Stepping.{refused, kept_seat, acts_is}
use Rattle.stm_replay.proofs.state.State.check.Goals as goal

pub returns-in_err-check-clause-kept : goal.returns-in_err-check-clause-kept
returns-in_err-check-clause-kept g c = refused _ (kept_seat c.self.inside c.args.self.now _ c.index_mut-seat.result.now
    c.check.new.self c.self.view_is c.index_mut-seat.ensures.value c.in_err-check.ensures.kept)

pub returns-clause-done : goal.returns-clause-done
returns-clause-done g c = acts_is c.self.inside c.args.self.now c.args.client
    (check c.args.address) c.word_of-word.result c.in_ok-events.events c.index_mut-seat.result.now c.check.new.self
    (running_of c.self.inside).core c.self.inside.order c.self.view_is c.requires.there.inside
    c.index_mut-seat.ensures.value c.word_of-word.ensures c.in_ok-events.ensures c.in_ok-check.ensures.done refl
    (ap (λ (x : Running). x.order) c.self.view_is)
