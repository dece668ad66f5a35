use Rattle.std.proofs.Common.{◌≡◌, true, false, get_or, sym, ap, ◌∙◌, subst}
use Rattle.judge_search.specs.Marks.{is_made}
use Rattle.judge_search.specs.Calls.{calls_of, can_come}
use Rattle.judge_search.proofs.Checks.{placed_more}
use Rattle.judge_search.proofs.Points.{led_not}
use Rattle.judge_search.proofs.checking.led_by.Goals as goal

false_true : false ≡ true → ⊥
false_true e = cc

pub returns-then-not-may_come-clause-refused : goal.returns-then-not-may_come-clause-refused
returns-then-not-may_come-clause-refused g c = λ none within can fit.
    let rules = g.M.Object.rules in
    let point = c.args.point in
    let lines = c.args.calls.now.lines.items in
    let place = c.args.place in
    false_true (sym c.if-not-may_come.true ∙ c.may_come.ensures.all within
    (subst (λ b. can_come rules (is_made point.low b) (calls_of lines) place ≡ true)
    (sym c.as_slice.ensures.value) can))

pub returns-then-not-branch-clause-refused : goal.returns-then-not-branch-clause-refused
returns-then-not-branch-clause-refused g c = λ none within can fit.
    false_true (sym (led_not (g.M.Object.rules) c.args.point.machine c.args.calls.now.lines.items c.args.place
    c.index-lines-place.result c.in_ok-machine.machine c.in_ok-machine.reply within
    (c.index-lines-place.is ∙ ap (λ ls. get_or ls c.args.place c.index-lines-place.result) c.as_slice-lines.ensures)
    c.in_ok-machine.ensures (sym c.in_ok-is_right.ensures ∙ c.if-not-branch.true)) ∙ fit)

pub returns-clause-led : goal.returns-clause-led
returns-clause-led g c = λ s places h.
    let rules = g.M.Object.rules in
    let point = c.args.point in
    let lines = c.args.calls.now.lines.items in
    let place = c.args.place in
    placed_more rules s lines places point
    (record { low = c.in_ok-low.low; beyond = c.in_ok-low.beyond; machine = c.in_ok-machine.machine }) place
    c.index-lines-place.result c.in_ok-machine.reply (c.may_come.ensures.within c.if-not-may_come.false)
    (c.index-lines-place.is ∙ ap (λ ls. get_or ls place c.index-lines-place.result) c.as_slice-lines.ensures)
    (subst (λ b. can_come rules (is_made point.low b) (calls_of lines) place ≡ true) c.as_slice.ensures.value
    (c.may_come.ensures.can c.if-not-may_come.false))
    (sym c.in_ok-is_right.ensures ∙ c.if-not-branch.false)
    c.in_ok-low.ensures c.in_ok-machine.ensures h
