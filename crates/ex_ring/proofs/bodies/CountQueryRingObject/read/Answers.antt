use Rattle.std.proofs.Common.{arith}
use Rattle.stm_object.specs.Steps.{load_step, two_steps, known_le}
use Rattle.ex_ring.proofs.bodies.CountQueryRingObject.read.Goals as goal

pub overflow_sub-result : goal.overflow_sub-result
overflow_sub-result g c = known_le _ _ c.requires.value
    (two_steps (load_step c.in_ok-head.ensures.answer (omega arith))
    (load_step c.in_ok-tail.ensures.answer (omega arith)))
    (g.met.M.TxRead.seen c.load-2.new.memory) (λ xs b p. omega (arith, p.0, p.1, b.order))
