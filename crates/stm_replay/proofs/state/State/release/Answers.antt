use Rattle.std.proofs.Common.{refl, ap, ◌∙◌, ℕ, set}
use Rattle.stm_core.specs.Client.{Client}
use Rattle.stm_core.specs.Event.{release}
use Rattle.std.specs.Prelude.{slice_index}
use Rattle.stm_core.specs.LockWord.{free_word}
use Rattle.stm_replay.specs.Running.{Running}
use Rattle.stm_replay.specs.StateView.{running_of}
use Rattle.stm_replay.proofs.Stepping.{acts_is}
use Rattle.stm_replay.proofs.state.State.release.Goals as goal

pub returns-clause-done : goal.returns-clause-done
returns-clause-done g c = acts_is c.self.inside c.args.self.now c.args.client (release c.args.stripe)
    (slice_index c.args.self.now.core.locks c.args.stripe) c.in_ok-events.events c.index_mut-seat.result.now
    c.release.new.self (record (running_of c.self.inside).core {
      locks = set c.self.inside.locks.items c.args.stripe c.free_lock.result;
    }) c.self.inside.order c.self.view_is
    c.requires.there.inside c.index_mut-seat.ensures.value refl c.in_ok-events.ensures c.release.ensures
    (ap (λ (z : ℕ). record (running_of c.self.inside).core { locks = set c.self.inside.locks.items c.args.stripe z })
    (c.free_lock.ensures ∙ ap free_word (c.write_version-version.ensures ∙
    ap (λ (v : Client). v.attempt.wv) c.seat.ensures))) (ap (λ (x : Running). x.order) c.self.view_is)
