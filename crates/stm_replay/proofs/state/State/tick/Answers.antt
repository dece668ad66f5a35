use Rattle.std.proofs.Common.{ap, sym, ◌∙◌, subst, ℕ, ◌<◌, List, [], ◌∷◌}
use Rattle.stm_core.specs.Client.{Client}
use Rattle.stm_core.specs.Event.{tick}
use Rattle.stm_core.specs.declared.limits.TheConstants.{MOST_TICKS}
use Rattle.stm_replay.specs.Seat.{seat_after}
use Rattle.stm_replay.specs.Running.{Running}
use Rattle.stm_replay.specs.StateView.{running_of}
use Rattle.stm_replay.proofs.Stepping.{seen, acts_is, exchange, ticked_order}
use Rattle.stm_replay.proofs.state.State.tick.Goals as goal

pub tick-requires-clause-room : goal.tick-requires-clause-room
tick-requires-clause-room g c = subst (λ (v : Client). v.attempt.ticks < MOST_TICKS)
    (sym (seen c.self.inside c.args.self.now c.args.client c.index_mut-seat.result.now c.self.view_is
    c.requires.there.inside c.index_mut-seat.ensures.value)) c.requires.room

pub returns-clause-done : goal.returns-clause-done
returns-clause-done g c = acts_is c.self.inside c.args.self.now c.args.client
    (tick c.args.from (c.args.tag ∷ []) c.args.writes) c.self.inside.clock c.in_ok-events.events
    c.index_mut-seat.result.now c.tick.new.self (record (running_of c.self.inside).core {
      clock = c.exchanged-clock.result;
    }) c.enter_if.new.self c.self.view_is c.requires.there.inside
    c.index_mut-seat.ensures.value (ap (λ (x : Running). x.core.clock) c.self.view_is) c.in_ok-events.ensures
    (c.tick.ensures ∙ ap (λ (l : List (ℕ × ℕ)). seat_after c.self.inside.events
    (tick c.args.from (c.args.tag ∷ []) l) c.self.inside.clock c.index_mut-seat.result.now) c.into_pairs.ensures ∙
    ap (λ (r : Running). seat_after r.core.events (tick c.args.from (c.args.tag ∷ []) c.args.writes) c.self.inside.clock
    c.index_mut-seat.result.now) c.self.view_is) (ap (λ (z : ℕ). record (running_of c.self.inside).core { clock = z })
    (c.exchanged-clock.ensures ∙ exchange c.self.inside.clock c.args.from))
    (ticked_order c.self.inside c.args.self.now c.args.client c.args.from c.args.tag c.args.writes
    c.decides_from-decides.result c.seat.result.now c.enter_if.new.self c.self.view_is c.seat.ensures
    c.decides_from-decides.ensures c.in_ok-enter_if.ensures.done)
