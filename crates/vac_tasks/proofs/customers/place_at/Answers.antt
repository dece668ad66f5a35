use Rattle.std.proofs.Common.{arith}
use Rattle.vac_tasks.proofs.Leaving.{id_small}
use Rattle.vac_tasks.proofs.customers.place_at.Goals as goal

pub overflow_cast-result : goal.overflow_cast-result
overflow_cast-result g c =
    let l = id_small _ _ _ _ _ _ c.requires.booking (rw c.word.ensures at c.in_ok-number.ensures.answer)
    (rw c.word-2.ensures at c.in_ok-id.ensures.answer) (g.met.M.TxRead.seen c.load-2.new.memory) in
    omega arith
