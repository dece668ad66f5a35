use Rattle.std.proofs.Common.{sym, ◌∙◌}
use Rattle.stm_attempt.proofs.Entering.{placed_put, inside}
use Rattle.stm_attempt.proofs.Marking.{covers_put, none_of}
use Rattle.stm_attempt.proofs.attempt.AttemptTxMem.write.Goals as goal

pub invariant_of-self-clause-placed : goal.invariant_of-self-clause-placed
invariant_of-self-clause-placed g c = λ in_use. placed_put c.put.result _ _ _ _ _ c.args.value
    (c.args.self.now.placed in_use) (inside _ _ _ _ _ _ c.requires) c.lock_of-lock.ensures.value
    c.lock_of-lock.ensures.range c.put.ensures.answer

pub invariant_of-self-clause-covered : goal.invariant_of-self-clause-covered
invariant_of-self-clause-covered g c = λ in_use. covers_put _ _ _ c.args.addr.0 c.mark.ensures c.put.result _ _ _
    c.args.value (c.args.self.now.covered in_use) c.put.ensures.answer

pub invariant_of-self-clause-marked : goal.invariant_of-self-clause-marked
invariant_of-self-clause-marked g c = λ _ some. absurd (some (none_of _ (sym c.is_some.ensures ∙ c.if-is_some.false)))
