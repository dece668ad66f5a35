use Rattle.std.proofs.Common.{◌++◌, ◌∙◌, ap, subst}
use Rattle.std.specs.Prelude.{IfSome}
use Rattle.judge_calls.specs.CallText.{history_text}
use Rattle.judge_reservations.specs.Lines.{calls_of}
use Rattle.judge_reservations.specs.Largest.{IsScopeOf, HasAllClosed, HasAllWhole}
use Rattle.judge_part_text.proofs.Parts.{part_text}
use Rattle.judge_part_text.proofs.until.text_of_part.Goals as goal

pub returns : goal.returns
returns c =
    let calls = calls_of c.args.lines.now in
    let cs = c.as_slice-customers.result.now in
    let places = c.as_slice-items.result.now in
    part_text c.args.names.now.customers.items cs c.args.names.now.items.items places calls c.in-Some.scope
    c.in_ok-part.part.items c.new-text.result.items c.print_calls.new.out.items
    c.as_slice-customers.ensures.value c.as_slice-items.ensures.value
    (subst (λ o. IfSome o (IsScopeOf cs places calls)) c.in-Some.is c.in_ok-scope.ensures.scope)
    (subst (λ o. IfSome o (λ scope. HasAllClosed cs places calls scope.closed.items)) c.in-Some.is
    c.in_ok-scope.ensures.closed)
    (subst (λ o. IfSome o (λ scope. HasAllWhole cs places calls scope.whole.items)) c.in-Some.is
    c.in_ok-scope.ensures.whole)
    c.in_ok-part.ensures.calls c.new-text.ensures.items
    (c.in_ok-print_calls.ensures
    ∙ ap (λ ls. c.new-text.result.items ++ history_text (calls_of ls)) c.as_slice.ensures.value)
