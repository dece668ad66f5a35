use Rattle.std.proofs.Common.{◌≡◌, ◌<◌, ◌-◌, ◌+◌, ◌&&◌, length, get_or, set, sym, subst, cond, nat_lt, refl, ap, ◌∙◌}
use Rattle.std.proofs.Common.{arith}
use Rattle.std.proofs.Common.{not}
use Rattle.judge_object.specs.declared.span.TheConstants.{NEVER}
use Rattle.judge_object.specs.declared.line.Line.{Line}
use Rattle.judge_search.proofs.Soonest.{Keeps, keep_step, keep_any, same_default}
use Rattle.judge_search.proofs.sorting.keep_soonest.Goals as goal

pub lines-preserved : goal.lines-preserved
lines-preserved g c =
    let now = c.lines.lines in
    let p = length now - 1 - c.lines.back in
    let d = c.index-lines-place-in-lines-2.result in
    let within : p < length now = omega arith in
    let x = get_or now p d in
    let s = c.of_kind.result in
    let begins : get_or now p c.index-lines-place.result ≡ x = same_default now p c.index-lines-place.result d within in
    let xe = get_or now p c.index-lines-place-in-lines.result in
    let ends : xe ≡ x = same_default now p c.index-lines-place-in-lines.result d within in
    subst (λ y. Keeps c.args.lines.now (set now p y) (c.lines.back + 1) c.lesser-completed.result
    c.lesser-pending.result)
    (sym (keep_any x s _))
    (keep_step c.args.lines.now now c.lines.back c.lines.completed c.lines.pending c.lesser-completed.result
    c.lesser-pending.result s p (get_or now p d) d c.lines.invariant (omega arith) refl refl
    (c.lesser-completed.ensures
    ∙ ap (λ (y : Line _). cond (nat_lt xe.end NEVER && nat_lt y.begin c.lines.completed) y.begin c.lines.completed)
    begins
    ∙ ap (λ (y : Line _). cond (nat_lt y.end NEVER && nat_lt x.begin c.lines.completed) x.begin c.lines.completed) ends)
    (c.lesser-pending.ensures
    ∙ ap (λ (y : Line _). cond (not (nat_lt xe.end NEVER) && nat_lt y.begin c.lines.pending) y.begin c.lines.pending)
    begins
    ∙ ap (λ (y : Line _). cond (not (nat_lt y.end NEVER) && nat_lt x.begin c.lines.pending) x.begin c.lines.pending)
    ends)
    (c.of_kind.ensures
    ∙ ap (λ (y : Line _). cond (nat_lt y.end NEVER) c.lesser-completed.result c.lesser-pending.result) ends))
