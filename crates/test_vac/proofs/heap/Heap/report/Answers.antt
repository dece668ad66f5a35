use Rattle.std.proofs.Common.{subst, sym, ◌∙◌}
use Rattle.vac_records.proofs.AfterReads.{held_on}
use Rattle.test_vac.specs.PlainState.{IsStateOf}
use Rattle.test_vac.proofs.Heaps.{report_is, words_stay}
use Rattle.test_vac.proofs.heap.Heap.report.Goals as goal

pub invariant_of-self : goal.invariant_of-self
invariant_of-self c = held_on _ _ c.in-Ok.ensures.answer.reads c.self.invariant

pub returns-clause-words : goal.returns-clause-words
returns-clause-words c = words_stay _ _ c.in-Ok.ensures.answer.reads ∙ c.self.view_is

pub returns-clause-report : goal.returns-clause-report
returns-clause-report c = λ s h. report_is _ _ _ c.in-Ok.ensures.answer s
    (subst (λ w. IsStateOf w s) (sym c.self.view_is) h)
