use Rattle.std.proofs.Common.{◌++◌, ◌∙◌, ap, subst}
use Rattle.std.specs.Prelude.{IfSome}
use Rattle.judge_calls.specs.CallText.{history_text}
use Rattle.judge_reservations.specs.Lines.{calls_of}
use Rattle.judge_reservations.specs.Largest.{IsScopeOf, HasAllClosed, HasAllWhole}
use Rattle.judge_part_text.proofs.Parts.{no_scope, part_text}
use Rattle.judge_part_text.proofs.parting.text_of_calls.Goals as goal

pub line_without-requires : goal.line_without-requires
line_without-requires c = no_scope c.args.names.now.customers.items _ c.args.names.now.items.items _
    (calls_of c.args.lines.now) c.as_slice-customers.ensures.value c.as_slice-items.ensures.value
    (c.in_ok-found.ensures.none c.in-None.is)

pub returns-in_ok-print_calls-in-Some : goal.returns-in_ok-print_calls-in-Some
returns-in_ok-print_calls-in-Some c =
    let calls = calls_of c.args.lines.now in
    let cs = c.as_slice-customers.result.now in
    let places = c.as_slice-items.result.now in
    part_text c.args.names.now.customers.items cs c.args.names.now.items.items places calls c.in-Some.scope
    c.in_ok-part-in-Some.part.items c.new-text.result.items c.print_calls.new.out.items
    c.as_slice-customers.ensures.value c.as_slice-items.ensures.value
    (subst (λ o. IfSome o (IsScopeOf cs places calls)) c.in-Some.is c.in_ok-found.ensures.scope)
    (subst (λ o. IfSome o (λ scope. HasAllClosed cs places calls scope.closed.items)) c.in-Some.is
    c.in_ok-found.ensures.closed)
    (subst (λ o. IfSome o (λ scope. HasAllWhole cs places calls scope.whole.items)) c.in-Some.is
    c.in_ok-found.ensures.whole)
    c.in_ok-part-in-Some.ensures.calls c.new-text.ensures.items
    (c.in_ok-print_calls-in-Some.ensures
    ∙ ap (λ ls. c.new-text.result.items ++ history_text (calls_of ls)) c.as_slice.ensures.value)
