use Rattle.std.proofs.Common.{◌-◌}
use Rattle.vac_records.proofs.Counting.{enough_fits, shifted}
use Rattle.vac_records.proofs.word.lower.Goals as goal

pub overflow_sub-value : goal.overflow_sub-value
overflow_sub-value g c = enough_fits _ _ _ _ _ c.requires.enough c.in_ok-value.ensures.answer
    (g.met.M.TxRead.seen c.load.new.memory)

pub returns-clause-answer : goal.returns-clause-answer
returns-clause-answer g c = shifted _ _ _ _ _ (λ v. v - c.args.by) c.in_ok-value.ensures.answer
    c.in_ok-store.ensures.answer
