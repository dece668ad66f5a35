use Rattle.std.proofs.Common.{◌+◌, arith}
use Rattle.vac_records.proofs.Counting.{room_fits, shifted}
use Rattle.vac_records.proofs.word.raise.Goals as goal

pub overflow_add-value : goal.overflow_add-value
overflow_add-value g c =
    let l = room_fits _ _ _ _ _ c.requires.room c.in_ok-value.ensures.answer (g.met.M.TxRead.seen c.load.new.memory) in
    omega arith

pub returns-clause-answer : goal.returns-clause-answer
returns-clause-answer g c = shifted _ _ _ _ _ (λ v. v + c.args.by) c.in_ok-value.ensures.answer
    c.in_ok-store.ensures.answer
