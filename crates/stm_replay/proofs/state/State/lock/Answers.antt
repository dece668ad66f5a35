use Rattle.std.proofs.Common.{ap, ◌∙◌, ℕ, ◌+◌, cond, eqb, set}
use Rattle.stm_core.specs.Client.{Client, word_before}
use Rattle.stm_core.specs.Event.{lock}
use Rattle.stm_replay.specs.Running.{Running}
use Rattle.stm_replay.specs.StateView.{running_of}
use Rattle.stm_replay.proofs.Stepping.{refused, kept_seat, acts_is}
use Rattle.stm_replay.proofs.state.State.lock.Goals as goal

pub returns-in_err-lock-clause-kept : goal.returns-in_err-lock-clause-kept
returns-in_err-lock-clause-kept g c = refused _ (kept_seat c.self.inside c.args.self.now _ c.index_mut-seat.result.now
    c.lock.new.self c.self.view_is c.index_mut-seat.ensures.value c.in_err-lock.ensures.kept)

pub returns-clause-done : goal.returns-clause-done
returns-clause-done g c = acts_is c.self.inside c.args.self.now c.args.client
    (lock c.args.stripe) c.lock_word-word.result c.in_ok-events.events c.index_mut-seat.result.now c.lock.new.self
    (record (running_of c.self.inside).core {
      locks = set c.self.inside.locks.items
          c.args.stripe c.exchanged-left.result;
    }) c.self.inside.order c.self.view_is c.requires.there.inside
    c.index_mut-seat.ensures.value c.lock_word-word.ensures c.in_ok-events.ensures c.in_ok-lock.ensures.done
    (ap (λ (z : ℕ). record (running_of c.self.inside).core { locks = set c.self.inside.locks.items c.args.stripe z })
    (c.exchanged-left.ensures ∙ ap (λ (m : ℕ). cond (eqb c.lock_word-word.result m)
    (c.lock_word-word.result + 1) c.lock_word-word.result) (c.word_before.ensures ∙
    ap (λ (v : Client). word_before v.attempt.last) c.seat.ensures))) (ap (λ (x : Running). x.order) c.self.view_is)
