use Rattle.std.proofs.Common.{◌+◌, ◌++◌, ◌∷◌, [], List, sym, ap, ◌∙◌, subst, append_assoc, codes, decimal, flat_map}
use Rattle.judge_object.specs.declared.line.Line.{Line}
use Rattle.judge_search.specs.Calls.{calls_of}
use Rattle.judge_search.specs.Point.{made_of, point_at}
use Rattle.judge_search.specs.Judging.{IsFoundOfCalls}
use Rattle.judge_linear.specs.Reading.{texts_of, numbers_of}
use Rattle.judge_linear.specs.Found.{placed_text, told_by, stuck_text, none_text, open_text}
use Rattle.judge_linear.specs.Judged.{IsOrder}
use Rattle.judge_search.proofs.Judged.{found_in}
use Rattle.judge_reservations.specs.Reserving.{reserving}
use Rattle.vac_model.specs.State.{empty_state}
use Rattle.judge_linear.proofs.Founds.{finds_order, finds_none, finds_nothing}
use Rattle.judge_linear.proofs.ordering.print_whole.Goals as goal
use Rattle.vac_model.specs.declared.tasks.Task.{Task}

pub returns-in_ok-print_order-in-Order-clause-text : goal.returns-in_ok-print_order-in-Order-clause-text
returns-in_ok-print_order-in-Order-clause-text c = λ want lines n given left bytes k j read before less none.
    let calls = c.args.calls.now in
    let kept = calls.lines.items in
    let all = found_in reserving (point_at reserving calls) (empty_state n) (calls_of kept) left c.args.found.now j in
    let found = subst (IsFoundOfCalls reserving (point_at reserving calls) (empty_state n) (calls_of kept) left)
    c.in-Order.is all in
    finds_order want lines kept k bytes read n (given + left) c.in-Order.places.items c.print_order.new.out.items found
    (c.in_ok-print_order-in-Order.ensures
    ∙ ap (λ t. t ++ placed_text (texts_of c.as_slice-lines.result.now) c.as_slice.result.now) none
    ∙ ap (λ (s : List (Line Task)). placed_text (texts_of s) c.as_slice.result.now) c.as_slice-lines.ensures
    ∙ ap (placed_text (texts_of kept)) c.as_slice.ensures.value)

pub returns-in_ok-print-in-NoOrder-clause-text : goal.returns-in_ok-print-in-NoOrder-clause-text
returns-in_ok-print-in-NoOrder-clause-text c = λ want lines n given left bytes k j read before less none.
    let calls = c.args.calls.now in
    let kept = calls.lines.items in
    let all = found_in reserving (point_at reserving calls) (empty_state n) (calls_of kept) left c.args.found.now j in
    let most = c.in-NoOrder.most in
    let point = c.in-NoOrder.point in
    let stuck = c.in_ok-stuck-in-NoOrder.stuck.items in
    let found = subst (IsFoundOfCalls reserving (point_at reserving calls) (empty_state n) (calls_of kept) left)
    c.in-NoOrder.is all in
    let blocked = flat_map stuck_text (told_by (numbers_of c.as_slice-lines.result.now) c.as_slice-stuck.result.now)
    in
    finds_none want lines kept k bytes read n (given + left) most (made_of point)
    point.machine stuck c.print.new.out.items found c.in_ok-stuck-in-NoOrder.ensures
    (c.in_ok-print-in-NoOrder.ensures.ok
    ∙ ap (λ t. t ++ (codes "illegal order " ++ (decimal most ++ (10 ∷ blocked)))) none
    ∙ ap (λ t. codes "illegal order " ++ t) (sym (append_assoc (decimal most) (10 ∷ []) blocked))
    ∙ ap (λ (s : List (Line Task)). none_text most (told_by (numbers_of s) c.as_slice-stuck.result.now))
    c.as_slice-lines.ensures
    ∙ ap (λ l. none_text most (told_by (numbers_of kept) l)) c.as_slice-stuck.ensures.value)

pub returns-in_ok-print-in-Unknown-clause-text : goal.returns-in_ok-print-in-Unknown-clause-text
returns-in_ok-print-in-Unknown-clause-text c = λ want lines n given left bytes k j read before less none.
    let calls = c.args.calls.now in
    let kept = calls.lines.items in
    let all = found_in reserving (point_at reserving calls) (empty_state n) (calls_of kept) left c.args.found.now j in
    let found = subst (IsFoundOfCalls reserving (point_at reserving calls) (empty_state n) (calls_of kept) left)
    c.in-Unknown.is all in
    finds_nothing want lines kept k bytes read n given left c.in-Unknown.most c.print-in-Unknown.new.out.items before
    less found
    (c.in_ok-print-in-Unknown.ensures.ok ∙ ap (λ t. t ++ open_text c.in-Unknown.most) none)

pub returns-in_ok-print-in-NoOrder-clause-order : goal.returns-in_ok-print-in-NoOrder-clause-order
returns-in_ok-print-in-NoOrder-clause-order c = λ f. absurd (subst IsOrder c.in-NoOrder.is f)

pub returns-in_ok-print-in-Unknown-clause-order : goal.returns-in_ok-print-in-Unknown-clause-order
returns-in_ok-print-in-Unknown-clause-order c = λ f. absurd (subst IsOrder c.in-Unknown.is f)
