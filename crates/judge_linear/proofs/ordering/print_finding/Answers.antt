use Rattle.std.proofs.Common.{◌+◌, ◌++◌, Result, Ok, Err, ap, ◌∙◌, subst}
use Rattle.std.specs.Prelude.{IfOk}
use Rattle.judge_linear.specs.Judged.{IsJudged, HasFoundOrder}
use Rattle.judge_linear.specs.Reading.{numbers_of}
use Rattle.judge_linear.specs.Found.{part_text, told_by}
use Rattle.vac_model.specs.State.{empty_state}
use Rattle.judge_linear.proofs.Founds.{finds_part}
use Rattle.judge_linear.proofs.ordering.print_finding.Goals as goal

if_ok : {A E : Type 0} {P Q : A → Type 0} → ((x : A) → P x → Q x) → (r : Result A E) → IfOk r P → IfOk r Q
if_ok f (Ok x) h = f x h
if_ok f (Err e) h = tt

pub returns-in-AllCalls-clause-text : goal.returns-in-AllCalls-clause-text
returns-in-AllCalls-clause-text c = if_ok (λ outcome h want lines n given left bytes few k j read before less none.
    h want lines n given left bytes k
    (subst (IsJudged (empty_state n) c.args.searched.now.calls left) c.in-AllCalls.is j) read before less none)
    c.print_whole.result c.print_whole.ensures.text

pub returns-in_ok-print-in-Part-clause-text : goal.returns-in_ok-print-in-Part-clause-text
returns-in_ok-print-in-Part-clause-text c = λ want lines n given left bytes few k j read before less none.
    let part = c.in-Part.part in
    let blocked = part.wrong.part in
    finds_part want lines c.args.searched.now.calls.lines.items k bytes read n (given + left) part
    c.print.new.out.items few (subst (IsJudged (empty_state n) c.args.searched.now.calls left) c.in-Part.is j)
    (c.in_ok-print-in-Part.ensures.ok
    ∙ ap (λ t. t ++ part_text part.wrong.line part.scope.customers.items part.scope.items.items
    (told_by (numbers_of blocked.calls.lines.items) blocked.stuck.items) part.wrong.states) none)

pub returns-in-AllCalls-clause-order : goal.returns-in-AllCalls-clause-order
returns-in-AllCalls-clause-order c = if_ok (λ outcome h f. h (subst HasFoundOrder c.in-AllCalls.is f))
    c.print_whole.result c.print_whole.ensures.order

pub returns-in_ok-print-in-Part-clause-order : goal.returns-in_ok-print-in-Part-clause-order
returns-in_ok-print-in-Part-clause-order c = λ f. absurd (subst HasFoundOrder c.in-Part.is f)
