use Rattle.std.proofs.Common.{rules, ◌≡◌, ◌≤◌, ◌<◌, ◌==◌, Bool, false, List, [], ◌∷◌, length, ap, ◌∙◌, subst, arith}
use Rattle.judge_object.specs.declared.span.TheConstants.{NEVER}
use Rattle.judge_reservations.specs.Reserving.{reserving}
use Rattle.judge_search.specs.Calls.{calls_of}
use Rattle.judge_search.specs.Judging.{IsFoundOfCalls, HasNoOrder}
use Rattle.judge_search.specs.Point.{point_at}
use Rattle.judge_linear.specs.Moments.{AreCutCalls}
use Rattle.judge_linear.proofs.CutCalls.{kept_cut, cut_none}
use Rattle.judge_linear.proofs.moments.cut_without_order.Goals as goal

some_items : {X : Type 0} (empty : Bool) (xs : List X) → empty ≡ (length xs == 0) → empty ≡ false → 1 ≤ length xs
some_items empty [] e f = cc
some_items empty (x ∷ xs) e f = omega arith

pub find_linearization-requires : goal.find_linearization-requires
find_linearization-requires g c =
    let early : c.args.moment < NEVER = search rules in
    let cuts = subst (λ ls. AreCutCalls c.args.moment ls c.in_ok-part.part) c.as_slice.ensures c.in_ok-part.ensures in
    record {
      whole = (kept_cut c.args.moment c.args.calls.now.lines.items c.in_ok-part.part early c.requires.whole
          cuts).0;
    }

pub returns-clause-none : goal.returns-clause-none
returns-clause-none g c =
    let part = c.in_ok-part.part in
    let found = c.in_ok-found.found in
    let early : c.args.moment < NEVER = search rules in
    let cuts = subst (λ ls. AreCutCalls c.args.moment ls part) c.as_slice.ensures c.in_ok-part.ensures in
    let finds = subst (IsFoundOfCalls reserving (point_at reserving part) c.in_ok-machine.machine
    (calls_of part.lines.items) found.steps) c.in-NoOrder.is c.in_ok-found.ensures.finds in
    cut_none c.args.calls.now.lines.items _ c.in-NoOrder.field-0 c.in-NoOrder.point early c.requires.whole cuts
    (subst (λ s. HasNoOrder reserving s (calls_of part.lines.items) c.in-NoOrder.field-0
    (point_at reserving part c.in-NoOrder.point)) c.in_ok-machine.ensures finds)
    c.in_ok-stuck.ensures (some_items c.is_empty.result c.in_ok-stuck.stuck.items
    (c.is_empty.ensures ∙ ap (λ n. n == 0) c.in_ok-stuck.stuck.ok.0) c.if-is_empty.false)
