use Rattle.std.proofs.Common.{refl, sym, subst, ◌<◌, length}
use Rattle.stm_core.specs.Client.{Client}
use Rattle.stm_core.specs.Event.{validate}
use Rattle.stm_replay.specs.StateView.{running_of}
use Rattle.stm_replay.proofs.Stepping.{seen, acts_is, validated_order}
use Rattle.stm_replay.proofs.state.State.validate.Goals as goal

pub validate-requires : goal.validate-requires
validate-requires g c = record {
  next = subst (λ (v : Client). v.attempt.passed < length v.attempt.reads) (sym
      (seen c.self.inside c.args.self.now c.args.client c.index_mut-seat.result.now c.self.view_is
      c.requires.there.inside
      c.index_mut-seat.ensures.value)) c.requires.next;
}

pub returns-clause-done : goal.returns-clause-done
returns-clause-done g c = acts_is c.self.inside c.args.self.now c.args.client
    (validate c.args.stripe) c.lock_word-word.result c.in_ok-events.events c.index_mut-seat.result.now
    c.validate.new.self (running_of c.self.inside).core c.enter_if.new.self c.self.view_is c.requires.there.inside
    c.index_mut-seat.ensures.value c.lock_word-word.ensures c.in_ok-events.ensures c.validate.ensures refl
    (validated_order c.self.inside c.args.self.now c.args.client c.args.stripe c.lock_word-word.result c.tag.result
    c.write_version.result c.ticked_at-place.result c.decides_by-decides.result c.seat-seat.result.now
    c.enter_if.new.self c.self.view_is c.seat-seat.ensures c.tag.ensures c.write_version.ensures
    c.ticked_at-place.ensures c.decides_by-decides.ensures c.in_ok-enter_if.ensures.done)
