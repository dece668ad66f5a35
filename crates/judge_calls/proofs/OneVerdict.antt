-- The verdict on an order that is a linearization is the one whose condition holds.
use Rattle.std.proofs.Common.{◌≡◌, ℕ, ◌+◌, ◌-◌, ◌≤◌, ◌==◌, Bool, true, false, cond, List, [], ◌∷◌, ◌++◌}
use Rattle.std.proofs.Common.{length, map, Option, Some, None, Result, Ok, Err, refl, sym, ap, subst, ◌∙◌, arith}
use Rattle.std.specs.Prelude.{⊤, ◌↔◌}
use Rattle.std.proofs.lemmas.Bool.Decides.{nat_tests}
use Rattle.vac_lines.specs.Lines.{lines_of}
use Rattle.judge_calls.specs.declared.fault.CallFault.{CallFault}
use Rattle.judge_calls.specs.declared.verdict.Verdict.{Verdict}
use Rattle.judge_calls.specs.declared.verdict.Verdict.TheVariants.{Legal, Fault, Illegal}
use Rattle.judge_calls.specs.declared.held.WorkloadVerdict.{WorkloadVerdict}
use Rattle.judge_calls.specs.declared.held.WorkloadVerdict.TheVariants.{BadTasks, Foreign, Missing, Judged}
use Rattle.judge_calls.specs.declared.in_order.OrderVerdict.{OrderVerdict}
use Rattle.judge_calls.specs.declared.in_order.OrderVerdict.TheVariants.{Held, LeftOut}
use Rattle.judge_calls.specs.Call.{Call, line_call}
use Rattle.judge_calls.specs.Verdict.{verdict_on, is_legal}
use Rattle.judge_calls.specs.Laws.{IsLinearization, LegalIsLinearization}
use Rattle.judge_calls.specs.Work.{Asked, line_asked, work_of, first_foreign, first_missing, calls_in}
use Rattle.judge_calls.specs.Work.{held_against_work, held_by, workload_verdict, unless_missing, joined_verdict}
use Rattle.judge_calls.specs.Whole.{asked_by}
use Rattle.judge_calls.specs.NotWhole.{AskForFirst, HandsOut, IsFirstWithoutTask, MissingIsFirst}
use Rattle.judge_calls.specs.AnyOrder.{line_of_call, unless_left_out, told_by_lines, unless_foreign, order_held_by}
use Rattle.judge_calls.specs.AnyOrder.{order_verdict, is_covered, IsReordered, IsWholeOrder}
use Rattle.judge_calls.specs.OneVerdict.{IsMissing, IsLeftOut, HasCondition, VerdictHasItsCondition}
use Rattle.judge_calls.proofs.Done.{false_true, work_lines, lines_work, goes_on, none_foreign, legal_is_whole}
use Rattle.judge_calls.proofs.NotWhole.{not_bad}
use Rattle.judge_calls.proofs.BadTasks.{bad_tasks_is_first}
use Rattle.judge_calls.proofs.AnyOrder.{oks_same, asked_in_order, covered_whole, whole_covered, foreign_first}
use Rattle.judge_calls.proofs.AnyOrder.{first_foreign_is, missing_never, left_pending, same_asked, more_asked}
use Rattle.judge_calls.proofs.AnyOrder.{held_same, left_not, missing_positive, self_is}

-- ---- what the order says, told by the lines

left_held : (found : Option ℕ) (client number : ℕ) (v : WorkloadVerdict) →
    unless_left_out found client number ≡ Held v →
    Missing client number ≡ v
left_held None client number v e = held_same (Missing client number) v e
left_held (Some line) client number v e = absurd (left_not line v e)

told_same : (lines : List (Result Call CallFault)) (held v : WorkloadVerdict) → told_by_lines lines held ≡ Held v →
    held ≡ v
told_same lines (Judged u) v e = held_same (Judged u) v e
told_same lines (BadTasks line) v e = held_same (BadTasks line) v e
told_same lines (Foreign line) v e = held_same (Foreign line) v e
told_same lines (Missing client number) v e =
    left_held (line_of_call client (number - 1) 1 lines) client number v e

same_works : (tasks : List ℕ) (a b : List Asked) → HandsOut tasks a → HandsOut tasks b → a ≡ b
same_works tasks a b one other = oks_same a b (sym one ∙ other)

-- ---- a line of the workload

bad_err : (n : ℕ) (w : Result (List Asked) ℕ) (text : List ℕ) (line : ℕ) → held_by n w text ≡ BadTasks line →
    w ≡ Err line
bad_err n (Err k) text line e = let same : k ≡ line = cc in ap Err same
bad_err n (Ok work) text line e =
    let lines = map line_call (lines_of text) in
    absurd (not_bad (first_foreign work [] lines) (first_missing (calls_in [] lines) [] work)
    (verdict_on n text) line e)

order_err : (n : ℕ) (w : Result (List Asked) ℕ) (bytes text : List ℕ) (line : ℕ) →
    order_held_by n w bytes text ≡ Held (BadTasks line) → w ≡ Err line
order_err n (Err k) bytes text line e = bad_err n (Err k) text line (held_same (BadTasks k) (BadTasks line) e)
order_err n (Ok work) bytes text line e = go (first_foreign work [] (map line_call (lines_of bytes))) e
  where
    go : (found : Option ℕ) →
        unless_foreign found (told_by_lines (map line_call (lines_of bytes)) (held_against_work n work text))
        ≡ Held (BadTasks line) → Ok work ≡ Err line
    go (Some at) g = absurd (let bad : Foreign at ≡ BadTasks line = held_same (Foreign at) (BadTasks line) g in cc)
    go None g = bad_err n (Ok work) text line
        (told_same (map line_call (lines_of bytes)) (held_against_work n work text) (BadTasks line) g)

bad_first : (n : ℕ) (tasks bytes text : List ℕ) (line : ℕ) →
    order_verdict n tasks bytes text ≡ Held (BadTasks line) → IsFirstWithoutTask tasks line
bad_first n tasks bytes text line h =
    let same = order_err n (work_of (map line_asked (lines_of tasks))) bytes text line h in
    (bad_tasks_is_first n tasks text line).0 (ap (λ w. held_by n w text) same)

first_bad : (n : ℕ) (tasks bytes text : List ℕ) (line : ℕ) → IsFirstWithoutTask tasks line →
    order_verdict n tasks bytes text ≡ Held (BadTasks line)
first_bad n tasks bytes text line h =
    let bad = (bad_tasks_is_first n tasks text line).1 h in
    ap (λ w. order_held_by n w bytes text) (bad_err n (work_of (map line_asked (lines_of tasks))) text line bad)

-- ---- a verdict that names no line as foreign, nor a line of the workload

record Reached (n : ℕ) (tasks bytes text : List ℕ) (verdict : OrderVerdict) : Type 0 where
  work : List Asked
  handed : HandsOut tasks work
  none : first_foreign work [] (map line_call (lines_of bytes)) ≡ None
  told : told_by_lines (map line_call (lines_of bytes)) (held_against_work n work text) ≡ verdict

abbrev NamesNone : OrderVerdict → Type 0
NamesNone (Held (BadTasks line)) = ⊥
NamesNone (Held (Foreign line)) = ⊥
NamesNone verdict = ⊤

reached : (n : ℕ) (tasks bytes text : List ℕ) (verdict : OrderVerdict) → NamesNone verdict →
    order_verdict n tasks bytes text ≡ verdict → Reached n tasks bytes text verdict
reached n tasks bytes text verdict i h = go (work_of (map line_asked (lines_of tasks))) refl h
  where
    go : (w : Result (List Asked) ℕ) → work_of (map line_asked (lines_of tasks)) ≡ w →
        order_held_by n w bytes text ≡ verdict → Reached n tasks bytes text verdict
    go (Err line) e g = absurd (subst NamesNone (sym g) i)
    go (Ok work) e g = decide (first_foreign work [] (map line_call (lines_of bytes))) refl g
      where
        decide : (found : Option ℕ) → first_foreign work [] (map line_call (lines_of bytes)) ≡ found →
            unless_foreign found (told_by_lines (map line_call (lines_of bytes)) (held_against_work n work text))
            ≡ verdict → Reached n tasks bytes text verdict
        decide (Some line) f g = absurd (subst NamesNone (sym g) i)
        decide None f g = record {
          work = work;
          handed = work_lines (map line_asked (lines_of tasks)) work e;
          none = f;
          told = g;
        }

all_asked : (n : ℕ) (tasks bytes text : List ℕ) (calls order : List Call) → IsReordered bytes text calls order →
    (verdict : OrderVerdict) (it : Reached n tasks bytes text verdict) (work : List Asked) → HandsOut tasks work →
    (k : ℕ) → AskForFirst k work calls
all_asked n tasks bytes text calls order r verdict it work handed k =
    let a = goes_on it.work [] calls (ap (first_foreign it.work []) (sym r.listed) ∙ it.none) k in
    subst (λ w. AskForFirst k w calls) (same_works tasks it.work work it.handed handed) (a.0, a.1)

-- the verdict if all calls ask for tasks and the order alone names a missing task
missing_told : (n : ℕ) (tasks bytes text : List ℕ) (calls order : List Call) →
    IsReordered bytes text calls order → (work : List Asked) → HandsOut tasks work →
    ((k : ℕ) → AskForFirst k work calls) → (client number : ℕ) → workload_verdict n tasks text ≡ Missing client number →
    order_verdict n tasks bytes text
    ≡ unless_left_out (line_of_call client (number - 1) 1 (map Ok calls)) client number
missing_told n tasks bytes text calls order r work handed asked client number h =
    let lines = map line_call (lines_of bytes) in
    let there : work_of (map line_asked (lines_of tasks)) ≡ Ok work = ap work_of handed ∙ lines_work work in
    let none : first_foreign work [] lines ≡ None =
    ap (first_foreign work []) r.listed ∙ none_foreign work [] calls (λ k. ((asked k).0, (asked k).1)) in
    let held : held_against_work n work text ≡ Missing client number =
    sym (ap (λ w. held_by n w text) there) ∙ h in
    ap (λ w. order_held_by n w bytes text) there
    ∙ ap (λ f. unless_foreign f (told_by_lines lines (held_against_work n work text))) none
    ∙ ap (told_by_lines lines) held
    ∙ ap (λ ls. unless_left_out (line_of_call client (number - 1) 1 ls) client number) r.listed

-- ---- a call of a client, found by its number

-- a client with few calls has none of this number
line_few : (client before line : ℕ) (calls : List Call) → length (asked_by client calls) ≤ before →
    line_of_call client before line (map Ok calls) ≡ None
line_few client before line [] h = refl
line_few client before line (c ∷ calls) h =
    go (c.client == client) refl (line_few client before (line + 1) calls)
    (line_few client (before - 1) (line + 1) calls)
  where
    go : (b : Bool) → (c.client == client) ≡ b →
        (length (asked_by client calls) ≤ before → line_of_call client before (line + 1) (map Ok calls) ≡ None) →
        (length (asked_by client calls) ≤ before - 1 →
        line_of_call client (before - 1) (line + 1) (map Ok calls) ≡ None) →
        cond b (cond (before == 0) (Some line) (line_of_call client (before - 1) (line + 1) (map Ok calls)))
        (line_of_call client before (line + 1) (map Ok calls)) ≡ None
    go true e other more =
        let size = more_asked client c calls e in
        let some : 1 ≤ before = omega (arith, size, h) in
        let not_zero : (before == 0) ≡ false = grind (arith, nat_tests, some) in
        ap (λ z. cond z (Some line) (line_of_call client (before - 1) (line + 1) (map Ok calls))) not_zero
        ∙ more (omega (arith, size, h))
    go false e other more = let size = same_asked client c calls e in other (omega (arith, size, h))

-- the call behind so many calls of its client is found
line_there : (client before line : ℕ) (front : List Call) (c : Call) (after : List Call) → c.client ≡ client →
    length (asked_by client front) ≡ before →
    line_of_call client before line (map Ok (front ++ c ∷ after)) ≡ Some (length front + line)
line_there client before line [] c after own place =
    let mine : (c.client == client) ≡ true = ap (λ x. x == client) own ∙ self_is client in
    let zero_is : (before == 0) ≡ true = ap (λ x. x == 0) (sym place) in
    let at : line ≡ 0 + line = omega arith in
    let rest = line_of_call client (before - 1) (line + 1) (map Ok after) in
    let other = line_of_call client before (line + 1) (map Ok after) in
    ap (λ b. cond b (cond (before == 0) (Some line) rest) other) mine
    ∙ ap (λ z. cond z (Some line) rest) zero_is ∙ ap Some at
line_there client before line (d ∷ front) c after own place =
    go (d.client == client) refl (line_there client before (line + 1) front c after own)
    (line_there client (before - 1) (line + 1) front c after own)
  where
    next : Some (length front + (line + 1)) ≡ Some (length (d ∷ front) + line)
    next = let same : length front + (line + 1) ≡ length (d ∷ front) + line = omega arith in ap Some same

    go : (b : Bool) → (d.client == client) ≡ b →
        (length (asked_by client front) ≡ before →
        line_of_call client before (line + 1) (map Ok (front ++ c ∷ after)) ≡ Some (length front + (line + 1))) →
        (length (asked_by client front) ≡ before - 1 →
        line_of_call client (before - 1) (line + 1) (map Ok (front ++ c ∷ after))
        ≡ Some (length front + (line + 1))) →
        cond b (cond (before == 0) (Some line)
        (line_of_call client (before - 1) (line + 1) (map Ok (front ++ c ∷ after))))
        (line_of_call client before (line + 1) (map Ok (front ++ c ∷ after))) ≡ Some (length (d ∷ front) + line)
    go true e other more =
        let size = more_asked client d front e in
        let some : 1 ≤ before = omega (arith, size, place) in
        let not_zero : (before == 0) ≡ false = grind (arith, nat_tests, some) in
        ap (λ z. cond z (Some line)
        (line_of_call client (before - 1) (line + 1) (map Ok (front ++ c ∷ after)))) not_zero
        ∙ more (omega (arith, size, place)) ∙ next
    go false e other more =
        let size = same_asked client d front e in other (omega (arith, size, place)) ∙ next

-- ---- a missing task

to_missing : MissingIsFirst → (n : ℕ) (tasks bytes text : List ℕ) (calls order : List Call) →
    IsReordered bytes text calls order → (client number : ℕ) →
    order_verdict n tasks bytes text ≡ Held (Missing client number) → IsMissing n tasks text calls client number
to_missing first n tasks bytes text calls order r client number h =
    let never = missing_never first n tasks bytes text calls order r client number h in
    let it = reached n tasks bytes text (Held (Missing client number)) tt h in record {
      never = never;
      asked = all_asked n tasks bytes text calls order r (Held (Missing client number)) it never.missing.work
          never.missing.handed;
    }

from_missing : MissingIsFirst → (n : ℕ) (tasks bytes text : List ℕ) (calls order : List Call) →
    IsReordered bytes text calls order → (client number : ℕ) → IsMissing n tasks text calls client number →
    order_verdict n tasks bytes text ≡ Held (Missing client number)
from_missing first n tasks bytes text calls order r client number m =
    let missing = m.never.missing in
    let some = missing_positive n tasks text client number missing in
    let fewer = m.never.fewer in
    let few : length (asked_by client calls) ≤ number - 1 = omega (arith, some, fewer) in
    missing_told n tasks bytes text calls order r missing.work missing.handed m.asked client number
    ((first n tasks text client number).1 missing)
    ∙ ap (λ o. unless_left_out o client number) (line_few client (number - 1) 1 calls few)

-- ---- a call that is left out

to_left_out : MissingIsFirst → (n : ℕ) (tasks bytes text : List ℕ) (calls order : List Call) →
    IsReordered bytes text calls order → (line : ℕ) → order_verdict n tasks bytes text ≡ LeftOut line →
    IsLeftOut n tasks text calls order line
to_left_out first n tasks bytes text calls order r line h =
    let pending = left_pending first n tasks bytes text calls order r line h in
    let it = reached n tasks bytes text (LeftOut line) tt h in record {
      pending = pending;
      asked = all_asked n tasks bytes text calls order r (LeftOut line) it pending.missing.work
          pending.missing.handed;
    }

from_left_out : MissingIsFirst → (n : ℕ) (tasks bytes text : List ℕ) (calls order : List Call) →
    IsReordered bytes text calls order → (line : ℕ) → IsLeftOut n tasks text calls order line →
    order_verdict n tasks bytes text ≡ LeftOut line
from_left_out first n tasks bytes text calls order r line m =
    let p = m.pending in
    let place = p.place in
    let at : length p.before + 1 ≡ line = sym p.line_is in
    let behind : length (asked_by p.client p.before) ≡ p.number - 1 = omega (arith, place) in
    let found : line_of_call p.client (p.number - 1) 1 (map Ok calls) ≡ Some line =
    ap (λ cs. line_of_call p.client (p.number - 1) 1 (map Ok cs)) p.split
    ∙ line_there p.client (p.number - 1) 1 p.before p.call p.after p.owner behind ∙ ap Some at in
    missing_told n tasks bytes text calls order r p.missing.work p.missing.handed m.asked p.client p.number
    ((first n tasks text p.client p.number).1 p.missing)
    ∙ ap (λ o. unless_left_out o p.client p.number) found

-- ---- the whole workload

judged_same : (missing : Option (ℕ × ℕ)) (u v : Verdict) → unless_missing missing u ≡ Judged v → v ≡ u
judged_same None (Legal found) v e = cc
judged_same None (Fault line fault) v e = cc
judged_same None (Illegal line wrong) v e = cc
judged_same (Some it) (Legal found) v e = absurd (let bad : Missing it.0 it.1 ≡ Judged v = e in cc)
judged_same (Some it) (Fault line fault) v e = cc
judged_same (Some it) (Illegal line wrong) v e = cc

judged_of_order : (n : ℕ) (tasks bytes text : List ℕ) (calls order : List Call) →
    IsReordered bytes text calls order → (v : Verdict) → order_verdict n tasks bytes text ≡ Held (Judged v) →
    v ≡ verdict_on n text
judged_of_order n tasks bytes text calls order r v h =
    let it = reached n tasks bytes text (Held (Judged v)) tt h in
    let lines = map line_call (lines_of text) in
    let held = told_same (map line_call (lines_of bytes)) (held_against_work n it.work text) (Judged v) it.told in
    let asked = all_asked n tasks bytes text calls order r (Held (Judged v)) it it.work it.handed in
    let here : first_foreign it.work [] lines ≡ None =
    ap (first_foreign it.work []) r.written
    ∙ none_foreign it.work [] order (λ k.
    let a = asked_in_order it.work calls order r.orders k (asked k) in (a.0, a.1)) in
    let missing = first_missing (calls_in [] lines) [] it.work in
    judged_same missing (verdict_on n text) v (sym (ap (λ f. joined_verdict f missing (verdict_on n text)) here) ∙ held)

to_whole : LegalIsLinearization → (n : ℕ) (tasks bytes text : List ℕ) (calls order : List Call) →
    IsReordered bytes text calls order → IsLinearization n order → (v : Verdict) →
    order_verdict n tasks bytes text ≡ Held (Judged v) →
    IsWholeOrder n tasks calls order × (v ≡ verdict_on n text)
to_whole legal n tasks bytes text calls order r linear v h =
    let same = judged_of_order n tasks bytes text calls order r v h in
    let right : is_legal (verdict_on n text) ≡ true =
    (legal n text).1 (record { calls = order; listed = r.written; linearization = linear }) in
    let covered : is_covered (order_verdict n tasks bytes text) ≡ true = ap is_covered h ∙ ap is_legal same ∙ right in
    (covered_whole (legal_is_whole legal) n tasks bytes text calls order r covered, same)

covered_judged : (o : OrderVerdict) → is_covered o ≡ true → (u : Verdict) × (o ≡ Held (Judged u))
covered_judged (Held (Judged u)) h = (u, refl)
covered_judged (Held (BadTasks line)) h = absurd (false_true h)
covered_judged (Held (Foreign line)) h = absurd (false_true h)
covered_judged (Held (Missing client number)) h = absurd (false_true h)
covered_judged (LeftOut line) h = absurd (false_true h)

from_whole : LegalIsLinearization → (n : ℕ) (tasks bytes text : List ℕ) (calls order : List Call) →
    IsReordered bytes text calls order → (v : Verdict) → IsWholeOrder n tasks calls order →
    v ≡ verdict_on n text → order_verdict n tasks bytes text ≡ Held (Judged v)
from_whole legal n tasks bytes text calls order r v whole e =
    let covered = whole_covered (legal_is_whole legal) n tasks bytes text calls order r whole in
    let found = covered_judged (order_verdict n tasks bytes text) covered in
    let same = judged_of_order n tasks bytes text calls order r found.0 found.1 in
    found.1 ∙ ap (λ u. Held (Judged u)) (same ∙ sym e)

-- ---- the law

pub verdict_has_its_condition : LegalIsLinearization → MissingIsFirst → VerdictHasItsCondition
verdict_has_its_condition legal first = λ n tasks bytes text calls order r linear verdict. of n tasks bytes text calls
    order r linear verdict
  where
    of : (n : ℕ) (tasks bytes text : List ℕ) (calls order : List Call) → IsReordered bytes text calls order →
        IsLinearization n order → (verdict : OrderVerdict) →
        (order_verdict n tasks bytes text ≡ verdict) ↔ HasCondition n tasks bytes text calls order verdict
    of n tasks bytes text calls order r linear (Held (Judged v)) = (
      to_whole legal n tasks bytes text calls order r linear v,
      λ both. from_whole legal n tasks bytes text calls order r v both.0 both.1,
    )
    of n tasks bytes text calls order r linear (Held (BadTasks line)) =
        (bad_first n tasks bytes text line, first_bad n tasks bytes text line)
    of n tasks bytes text calls order r linear (Held (Foreign line)) =
        (foreign_first n tasks bytes text calls order r line, first_foreign_is n tasks bytes text line)
    of n tasks bytes text calls order r linear (Held (Missing client number)) = (
      to_missing first n tasks bytes text calls order r client number,
      from_missing first n tasks bytes text calls order r client number,
    )
    of n tasks bytes text calls order r linear (LeftOut line) = (
      to_left_out first n tasks bytes text calls order r line,
      from_left_out first n tasks bytes text calls order r line,
    )
