use Rattle.std.proofs.Common.{Ok, refl, sym, subst}
use Rattle.vac_manager.specs.Called.{CallerShown, ClientShown, HasCalled}
use Rattle.ex_desk.proofs.Running.{on_first}
use Rattle.ex_desk.proofs.run.open.Goals as goal

pub returns-in-Ok-answer-clause-on : goal.returns-in-Ok-answer-clause-on
returns-in-Ok-answer-clause-on c =
    let called = subst (λ (y : CallerShown). HasCalled y.shared c.in-Ok.task 1 (Ok c.in-Ok-answer.field-0) y.user
    c.call-answer.new.caller.user) c.caller-caller.ensures c.in-Ok-answer.ensures.called in
    on_first c.args.settings _ _ c.in-Ok-new.client c.in-Ok.task c.in-Ok-answer.field-0 c.in-Ok-new.ensures.ok
    (subst (λ (x : ClientShown). HasCalled c.in-Ok-new.manager c.in-Ok.task 1 (Ok c.in-Ok-answer.field-0)
    c.in-Ok-new.client x) (sym c.into_user-client.ensures.user) called)
    c.in-Ok.ensures.task c.in-Ok-new_desks.ensures refl
