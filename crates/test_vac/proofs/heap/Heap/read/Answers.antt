use Rattle.std.proofs.Common.{subst, sym, ◌∙◌}
use Rattle.test_vac.proofs.Heaps.{held_task}
use Rattle.test_vac.specs.PlainState.{IsStateOf}
use Rattle.test_vac.proofs.Heaps.{holds_run, reply_run, same_words}
use Rattle.test_vac.proofs.heap.Heap.read.Goals as goal

pub invariant_of-self : goal.invariant_of-self
invariant_of-self c = held_task _ _ _ _ c.in-Ok.ensures.answer c.self.invariant

pub returns-clause-words : goal.returns-clause-words
returns-clause-words c = same_words _ _ c.in-Ok.ensures.answer.kept.size c.in-Ok.ensures.writes ∙ c.self.view_is

pub returns-clause-state : goal.returns-clause-state
returns-clause-state c = λ s h. holds_run _ _ _ _ c.in-Ok.ensures.answer s
    (subst (λ w. IsStateOf w s) (sym c.self.view_is) h)

pub returns-clause-reply : goal.returns-clause-reply
returns-clause-reply c = λ s h. reply_run _ _ _ _ c.in-Ok.ensures.answer s
    (subst (λ w. IsStateOf w s) (sym c.self.view_is) h)
