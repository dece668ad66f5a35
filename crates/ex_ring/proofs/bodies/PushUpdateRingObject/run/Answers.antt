use Rattle.std.proofs.Common.{true, arith, refl}
use Rattle.stm_object.specs.Steps.{load_step, store_step, two_steps, known_le, has_done}
use Rattle.ex_ring.specs.declared.entry.Entry.TheVariants.{Push}
use Rattle.ex_ring.specs.declared.law.TheConstants.{WORDS}
use Rattle.ex_ring.specs.Queue.{IsRing, Finds, after, code}
use Rattle.ex_ring.specs.Keeping.{ring_after}
use Rattle.ex_ring.proofs.bodies.PushUpdateRingObject.run.Goals as goal

pub overflow_sub-tail : goal.overflow_sub-tail
overflow_sub-tail g c = known_le _ _ c.requires.value
    (two_steps (load_step c.in_ok-head.ensures.answer (omega arith))
    (load_step c.in_ok-tail.ensures.answer (omega arith)))
    (g.met.M.TxRead.seen c.load-2.new.memory) (λ xs b p. omega (arith, p.0, p.1, b.order))

pub returns-clause-answer : goal.returns-clause-answer
returns-clause-answer g c = has_done WORDS IsRing (λ e. Unit {0}) Finds after code ring_after
    (Push c.args.self.now.0 true) tt (λ xs b. b.size)
    (two_steps (load_step c.in_ok-head.ensures.answer (omega arith))
    (two_steps (load_step c.in_ok-tail.ensures.answer (omega arith))
    (two_steps (store_step c.in_ok-store.ensures.answer) (store_step c.in_ok-store-2.ensures.answer))))
    (λ xs b p. (
      record { slot = omega (arith, p.0, p.1.0); count = omega (arith, p.1.0) },
      rw (p.1.0, c.slot.ensures) refl,
    ))
