-- The verdict on an order of a history's calls, in terms of the lines of the history.
use Rattle.std.proofs.Common.{◌≡◌, ℕ, ◌+◌, ◌-◌, ◌<◌, ◌≤◌, ◌==◌, suc, Bool, true, false, cond, List, [], ◌∷◌, ◌++◌}
use Rattle.std.proofs.Common.{length, map, Option, Some, None, Result, Ok, Err, refl, sym, ap, subst, ◌∙◌}
use Rattle.std.proofs.Common.{arith, append_assoc}
use Rattle.std.specs.Prelude.{⊤}
use Rattle.std.proofs.lemmas.Bool.Decides.{nat_tests}
use Rattle.std.proofs.lemmas.List.{map-append}
use Rattle.vac_lines.specs.Lines.{lines_of}
use Rattle.vac_model.specs.TaskText.{task_text}
use Rattle.judge_object.proofs.Order.{fails}
use Rattle.judge_object.specs.Call.{EachCall, is_completed}
use Rattle.judge_object.specs.Orders.{of_client, IsOrderOf}
use Rattle.judge_calls.specs.declared.fault.CallFault.{CallFault}
use Rattle.judge_calls.specs.declared.held.WorkloadVerdict.{WorkloadVerdict}
use Rattle.judge_calls.specs.declared.held.WorkloadVerdict.TheVariants.{BadTasks, Foreign, Missing, Judged}
use Rattle.judge_calls.specs.declared.in_order.OrderVerdict.{OrderVerdict}
use Rattle.judge_calls.specs.declared.in_order.OrderVerdict.TheVariants.{Held, LeftOut}
use Rattle.judge_calls.specs.Call.{Call, line_call}
use Rattle.judge_calls.specs.Verdict.{verdict_on}
use Rattle.judge_calls.specs.Laws.{IsLinearization}
use Rattle.judge_calls.specs.Work.{Asked, line_asked, work_of, is_next, first_foreign, first_missing}
use Rattle.judge_calls.specs.Work.{calls_in}
use Rattle.judge_calls.specs.Work.{held_against_work, held_by, workload_verdict, is_whole}
use Rattle.judge_calls.specs.Whole.{asked_by, forms, IsDoneBy, LegalIsWhole}
use Rattle.judge_calls.specs.NotWhole.{AskForFirst, IsFirstMissing, MissingIsFirst}
use Rattle.judge_calls.specs.AnyOrder.{line_of_call, unless_left_out, told_by_lines, unless_foreign, order_held_by}
use Rattle.judge_calls.specs.AnyOrder.{order_verdict, is_covered, IsReordered, IsWholeOrder, CoveredIsWhole}
use Rattle.judge_calls.specs.AnyOrder.{IsFirstOther, ForeignIsOfHistory, IsNeverSubmitted, MissingIsNeverSubmitted}
use Rattle.judge_calls.specs.AnyOrder.{IsLeftOutOfOrder, LeftOutIsPending}
use Rattle.judge_calls.proofs.Done.{false_true, work_lines, lines_work, goes_on, none_foreign}
use Rattle.judge_calls.proofs.NotWhole.{is_foreign}
use Rattle.judge_calls.proofs.Foreign.{find_other, other_named, asks_with, next_with}
use Rattle.judge_calls.proofs.Missing.{few_made}

-- ---- a text lists its calls in one way

tail_same : {X : Type 0} (a b : X) (xs ys : List X) → a ∷ xs ≡ b ∷ ys → (a ≡ b) × (xs ≡ ys)
tail_same a b xs ys e = (cc, cc)

ok_same : {X E : Type 0} (a b : X) → ◌≡◌ {A = Result X E} (Ok a) (Ok b) → a ≡ b
ok_same a b e = cc

pub oks_same : {X E : Type 0} (xs ys : List X) → ◌≡◌ {A = List (Result X E)} (map Ok xs) (map Ok ys) → xs ≡ ys
oks_same [] [] e = refl
oks_same [] (y ∷ ys) e = cc
oks_same (x ∷ xs) [] e = cc
oks_same (x ∷ xs) (y ∷ ys) e =
    let two = tail_same (Ok x) (Ok y) (map Ok xs) (map Ok ys) e in
    ap (λ c. c ∷ xs) (ok_same x y two.0) ∙ ap (λ l. y ∷ l) (oks_same xs ys two.1)

-- ---- the calls of a client in an order

pub self_is : (k : ℕ) → (k == k) ≡ true
self_is k = grind (arith, nat_tests)

asked_of_client : (k : ℕ) (calls : List Call) → asked_by k calls ≡ map (λ (c : Call). c.op) (of_client k calls)
asked_of_client k [] = refl
asked_of_client k (c ∷ calls) = go (c.client == k) (asked_of_client k calls)
  where
    go : (b : Bool) → asked_by k calls ≡ map (λ (c : Call). c.op) (of_client k calls) →
        cond b (c.op ∷ asked_by k calls) (asked_by k calls)
        ≡ map (λ (c : Call). c.op) (cond b (c ∷ of_client k calls) (of_client k calls))
    go true e = ap (λ l. c.op ∷ l) e
    go false e = e

client_both : (k : ℕ) (xs ys : List Call) → of_client k (xs ++ ys) ≡ of_client k xs ++ of_client k ys
client_both k [] ys = refl
client_both k (x ∷ xs) ys = go (x.client == k) (client_both k xs ys)
  where
    go : (b : Bool) → of_client k (xs ++ ys) ≡ of_client k xs ++ of_client k ys →
        cond b (x ∷ of_client k (xs ++ ys)) (of_client k (xs ++ ys))
        ≡ cond b (x ∷ of_client k xs) (of_client k xs) ++ of_client k ys
    go true e = ap (λ l. x ∷ l) e
    go false e = e

-- the calls of a client are those of the order, and those that are left out
client_parts : (calls order : List Call) (o : IsOrderOf calls order) (k : ℕ) →
    of_client k calls ≡ of_client k order ++ of_client k o.left
client_parts calls order o k = sym (o.merges k) ∙ client_both k order o.left

-- where all calls ask for the first tasks of a client, those of the order do
pub asked_in_order : (work : List Asked) (calls order : List Call) → IsOrderOf calls order → (k : ℕ) →
    AskForFirst k work calls → AskForFirst k work order
asked_in_order work calls order o k a =
    let op_of = λ (c : Call). c.op in
    let parts : asked_by k calls ≡ asked_by k order ++ asked_by k o.left =
    asked_of_client k calls ∙ ap (map op_of) (client_parts calls order o k)
    ∙ map-append op_of (of_client k order) (of_client k o.left)
    ∙ ap (λ l. l ++ map op_of (of_client k o.left)) (sym (asked_of_client k order))
    ∙ ap (λ l. asked_by k order ++ l) (sym (asked_of_client k o.left)) in (
      forms (asked_by k o.left) ++ a.0,
      a.1 ∙ ap (λ l. forms l ++ a.0) parts
          ∙ ap (λ l. l ++ a.0) (map-append task_text (asked_by k order) (asked_by k o.left))
          ∙ append_assoc (forms (asked_by k order)) (forms (asked_by k o.left)) a.0,
    )

-- ---- what a verdict is

unless_covered : (found : Option ℕ) (verdict : OrderVerdict) → is_covered (unless_foreign found verdict) ≡ true →
    (found ≡ None) × (is_covered verdict ≡ true)
unless_covered None verdict h = (refl, h)
unless_covered (Some line) verdict h = absurd (false_true h)

left_uncovered : (found : Option ℕ) (client number : ℕ) → is_covered (unless_left_out found client number) ≡ false
left_uncovered None client number = refl
left_uncovered (Some line) client number = refl

told_whole : (lines : List (Result Call CallFault)) (verdict : WorkloadVerdict) →
    is_covered (told_by_lines lines verdict) ≡ true → is_whole verdict ≡ true
told_whole lines (Judged verdict) h = h
told_whole lines (BadTasks line) h = h
told_whole lines (Foreign line) h = h
told_whole lines (Missing client number) h =
    absurd (false_true (sym (left_uncovered (line_of_call client (number - 1) 1 lines) client number) ∙ h))

whole_told : (lines : List (Result Call CallFault)) (verdict : WorkloadVerdict) → is_whole verdict ≡ true →
    is_covered (told_by_lines lines verdict) ≡ true
whole_told lines (Judged verdict) h = h
whole_told lines (BadTasks line) h = absurd (false_true h)
whole_told lines (Foreign line) h = absurd (false_true h)
whole_told lines (Missing client number) h = absurd (false_true h)

-- ---- an order that covers the workload

pub covered_whole : LegalIsWhole → (n : ℕ) (tasks bytes text : List ℕ) (calls order : List Call) →
    IsReordered bytes text calls order → is_covered (order_verdict n tasks bytes text) ≡ true →
    IsWholeOrder n tasks calls order
covered_whole whole n tasks bytes text calls order r h = go (work_of (map line_asked (lines_of tasks))) refl h
  where
    go : (w : Result (List Asked) ℕ) → work_of (map line_asked (lines_of tasks)) ≡ w →
        is_covered (order_held_by n w bytes text) ≡ true → IsWholeOrder n tasks calls order
    go (Err line) e g = absurd (false_true g)
    go (Ok work) e g =
        let lines = map line_call (lines_of bytes) in
        let parts = unless_covered (first_foreign work [] lines)
        (told_by_lines lines (held_against_work n work text)) g in
        let legal : is_whole (workload_verdict n tasks text) ≡ true =
        ap (λ w. is_whole (held_by n w text)) e ∙ told_whole lines (held_against_work n work text) parts.1 in
        let all = (whole n tasks text).0 legal in
        let handed = work_lines (map line_asked (lines_of tasks)) work e in
        let same_work : all.work ≡ work = oks_same all.work work (sym all.handed ∙ handed) in
        let same_order : all.calls ≡ order = oks_same all.calls order (sym all.listed ∙ r.written) in
        record {
          work = work;
          handed = handed;
          linearization = subst (IsLinearization n) same_order all.linearization;
          done = λ client. subst (λ w. IsDoneBy client w order) same_work
              (subst (λ cs. IsDoneBy client all.work cs) same_order (all.done client));
          asked = λ client. (
            (goes_on work [] calls (ap (first_foreign work []) (sym r.listed) ∙ parts.0) client).0,
            (goes_on work [] calls (ap (first_foreign work []) (sym r.listed) ∙ parts.0) client).1,
          );
        }

pub whole_covered : LegalIsWhole → (n : ℕ) (tasks bytes text : List ℕ) (calls order : List Call) →
    IsReordered bytes text calls order → IsWholeOrder n tasks calls order →
    is_covered (order_verdict n tasks bytes text) ≡ true
whole_covered whole n tasks bytes text calls order r h =
    let lines = map line_call (lines_of bytes) in
    let work : work_of (map line_asked (lines_of tasks)) ≡ Ok h.work = ap work_of h.handed ∙ lines_work h.work in
    let none : first_foreign h.work [] lines ≡ None =
    ap (first_foreign h.work []) r.listed
    ∙ none_foreign h.work [] calls (λ k. ((h.asked k).0, (h.asked k).1)) in
    let legal : is_whole (workload_verdict n tasks text) ≡ true =
    (whole n tasks text).1 (record {
      work = h.work;
      calls = order;
      handed = h.handed;
      listed = r.written;
      linearization = h.linearization;
      done = h.done;
    }) in
    let same : is_whole (held_against_work n h.work text) ≡ true =
    sym (ap (λ w. is_whole (held_by n w text)) work) ∙ legal in
    ap (λ w. is_covered (order_held_by n w bytes text)) work
    ∙ ap (λ f. is_covered (unless_foreign f (told_by_lines lines (held_against_work n h.work text)))) none
    ∙ whole_told lines (held_against_work n h.work text) same

pub covered_is_whole : LegalIsWhole → CoveredIsWhole
covered_is_whole whole =
    λ n tasks bytes text calls order r. (
      covered_whole whole n tasks bytes text calls order r,
      whole_covered whole n tasks bytes text calls order r,
    )

-- ---- a foreign task

pub held_same : (a b : WorkloadVerdict) → Held a ≡ Held b → a ≡ b
held_same a b e = cc

foreign_same : (k line : ℕ) → Foreign k ≡ Foreign line → k ≡ line
foreign_same k line e = cc

some_none : (line : ℕ) → ◌≡◌ {A = Option ℕ} (Some line) None → ⊥
some_none line e = cc

pub left_not : (line : ℕ) (verdict : WorkloadVerdict) → LeftOut line ≡ Held verdict → ⊥
left_not line verdict e = cc

missing_not : (client number line : ℕ) → Missing client number ≡ Foreign line → ⊥
missing_not client number line e = cc

left_foreign : (found : Option ℕ) (client number line : ℕ) → unless_left_out found client number ≡ Held (Foreign line)
    → ⊥
left_foreign (Some at) client number line e = left_not at (Foreign line) e
left_foreign None client number line e =
    missing_not client number line (held_same (Missing client number) (Foreign line) e)

told_foreign : (lines : List (Result Call CallFault)) (verdict : WorkloadVerdict) (line : ℕ) →
    told_by_lines lines verdict ≡ Held (Foreign line) → verdict ≡ Foreign line
told_foreign lines (Judged verdict) line e = held_same (Judged verdict) (Foreign line) e
told_foreign lines (BadTasks at) line e = held_same (BadTasks at) (Foreign line) e
told_foreign lines (Foreign at) line e = held_same (Foreign at) (Foreign line) e
told_foreign lines (Missing client number) line e =
    absurd (left_foreign (line_of_call client (number - 1) 1 lines) client number line e)

pub foreign_first : (n : ℕ) (tasks bytes text : List ℕ) (calls order : List Call) → IsReordered bytes text calls order →
    (line : ℕ) → order_verdict n tasks bytes text ≡ Held (Foreign line) → IsFirstOther tasks bytes line
foreign_first n tasks bytes text calls order r line h = go (work_of (map line_asked (lines_of tasks))) refl h
  where
    other : (work : List Asked) → work_of (map line_asked (lines_of tasks)) ≡ Ok work →
        first_foreign work [] (map line_call (lines_of bytes)) ≡ Some line → IsFirstOther tasks bytes line
    other work e found =
        let f = find_other work [] (map line_call (lines_of bytes)) line found in
        let number : line ≡ 0 + length f.before + 1 = f.number in
        record {
          work = work;
          before = f.before;
          call = f.call;
          rest = f.rest;
          handed = work_lines (map line_asked (lines_of tasks)) work e;
          listed = f.listed;
          number = omega (arith, number);
          asked = goes_on work [] f.before f.none;
          other = λ a. false_true (sym f.other ∙ next_with work f.before f.call a);
        }

    none : (work : List Asked) → first_foreign work [] (map line_call (lines_of bytes)) ≡ None →
        held_against_work n work text ≡ Foreign line → ⊥
    none work found g =
        let lines = map line_call (lines_of text) in
        let is = is_foreign (first_foreign work [] lines) (first_missing (calls_in [] lines) [] work)
        (verdict_on n text) line g in
        let all = goes_on work [] calls (ap (first_foreign work []) (sym r.listed) ∙ found) in
        let here : first_foreign work [] lines ≡ None =
        ap (first_foreign work []) r.written
        ∙ none_foreign work [] order (λ k.
        let a = asked_in_order work calls order r.orders k ((all k).0, (all k).1) in (a.0, a.1)) in
        some_none line (sym is.0 ∙ here)

    go : (w : Result (List Asked) ℕ) → work_of (map line_asked (lines_of tasks)) ≡ w →
        order_held_by n w bytes text ≡ Held (Foreign line) → IsFirstOther tasks bytes line
    go (Err at) e g = absurd (let bad : BadTasks at ≡ Foreign line = held_same (BadTasks at) (Foreign line) g in cc)
    go (Ok work) e g = decide (first_foreign work [] (map line_call (lines_of bytes))) refl g
      where
        decide : (found : Option ℕ) → first_foreign work [] (map line_call (lines_of bytes)) ≡ found →
            unless_foreign found (told_by_lines (map line_call (lines_of bytes)) (held_against_work n work text))
            ≡ Held (Foreign line) → IsFirstOther tasks bytes line
        decide (Some at) found g =
            let same = foreign_same at line (held_same (Foreign at) (Foreign line) g) in
            other work e (found ∙ ap Some same)
        decide None found g = absurd (none work found (told_foreign (map line_call (lines_of bytes))
            (held_against_work n work text) line g))

pub first_foreign_is : (n : ℕ) (tasks bytes text : List ℕ) (line : ℕ) → IsFirstOther tasks bytes line →
    order_verdict n tasks bytes text ≡ Held (Foreign line)
first_foreign_is n tasks bytes text line h =
    let lines = map line_call (lines_of bytes) in
    let work : work_of (map line_asked (lines_of tasks)) ≡ Ok h.work = ap work_of h.handed ∙ lines_work h.work in
    let other = fails (is_next h.work (calls_in [] (map Ok h.before)) h.call)
    (λ t. h.other (asks_with h.work h.before h.call (h.asked h.call.client) t)) in
    let number : 0 + length h.before + 1 ≡ line = omega (arith, h.number) in
    let foreign : first_foreign h.work [] lines ≡ Some line =
    ap (first_foreign h.work []) h.listed
    ∙ other_named h.work [] h.before h.call h.rest
    (none_foreign h.work [] h.before (λ k. ((h.asked k).0, (h.asked k).1))) other
    ∙ ap Some number in
    ap (λ w. order_held_by n w bytes text) work
    ∙ ap (λ f. unless_foreign f (told_by_lines lines (held_against_work n h.work text))) foreign

pub foreign_is_of_history : ForeignIsOfHistory
foreign_is_of_history n tasks bytes text calls order r line =
    (foreign_first n tasks bytes text calls order r line, first_foreign_is n tasks bytes text line)

-- ---- a missing task

-- the call of a client that has this many calls of the client before it
record CallOf (client before line : ℕ) (calls : List Call) (found : ℕ) : Type 0 where
  front : List Call
  call : Call
  after : List Call
  split : calls ≡ front ++ call ∷ after
  line_is : found ≡ length front + line
  owner : call.client ≡ client
  place : length (asked_by client front) ≡ before

none_some : (line : ℕ) → ◌≡◌ {A = Option ℕ} None (Some line) → ⊥
none_some line e = cc

some_same : (k line : ℕ) → Some k ≡ Some line → k ≡ line
some_same k line e = cc

is_same : (a b : ℕ) → (a == b) ≡ true → a ≡ b
is_same a b e = grind (arith, nat_tests)

pub more_asked : (client : ℕ) (c : Call) (front : List Call) → (c.client == client) ≡ true →
    length (asked_by client (c ∷ front)) ≡ suc (length (asked_by client front))
more_asked client c front e = ap (λ b. length (cond b (c.op ∷ asked_by client front) (asked_by client front))) e

pub same_asked : (client : ℕ) (c : Call) (front : List Call) → (c.client == client) ≡ false →
    length (asked_by client (c ∷ front)) ≡ length (asked_by client front)
same_asked client c front e = ap (λ b. length (cond b (c.op ∷ asked_by client front) (asked_by client front))) e

line_found : (client before line : ℕ) (calls : List Call) (found : ℕ) →
    line_of_call client before line (map Ok calls) ≡ Some found → CallOf client before line calls found
line_found client before line [] found h = absurd (none_some found h)
line_found client before line (c ∷ calls) found h =
    go (c.client == client) refl (line_found client before (line + 1) calls found)
    (λ g. line_found client (before - 1) (line + 1) calls found g) h
  where
    own : (c.client == client) ≡ true → (b : Bool) → (before == 0) ≡ b →
        (line_of_call client (before - 1) (line + 1) (map Ok calls) ≡ Some found →
        CallOf client (before - 1) (line + 1) calls found) →
        cond b (Some line) (line_of_call client (before - 1) (line + 1) (map Ok calls)) ≡ Some found →
        CallOf client before line (c ∷ calls) found
    own e true z more g =
        let at = some_same line found g in
        let zero_is = is_same before 0 z in
        record {
          front = [];
          call = c;
          after = calls;
          split = refl;
          line_is = omega (arith, at);
          owner = is_same c.client client e;
          place = sym zero_is;
        }
    own e false z more g =
        let m = more g in
        let size = more_asked client c m.front e in
        record {
          front = c ∷ m.front;
          call = m.call;
          after = m.after;
          split = ap (λ l. c ∷ l) m.split;
          line_is = (let at = m.line_is in omega (arith, at));
          owner = m.owner;
          place = (let p = m.place in let some : 1 ≤ before = grind (arith, nat_tests) in omega (arith, size, p, some));
        }

    go : (b : Bool) → (c.client == client) ≡ b → (line_of_call client before (line + 1) (map Ok calls) ≡ Some found →
        CallOf client before (line + 1) calls found) →
        (line_of_call client (before - 1) (line + 1) (map Ok calls) ≡ Some found →
        CallOf client (before - 1) (line + 1) calls found) →
        cond b (cond (before == 0) (Some line) (line_of_call client (before - 1) (line + 1) (map Ok calls)))
        (line_of_call client before (line + 1) (map Ok calls)) ≡ Some found →
        CallOf client before line (c ∷ calls) found
    go true e other more g = own e (before == 0) refl more g
    go false e other more g =
        let m = other g in
        let size = same_asked client c m.front e in
        record {
          front = c ∷ m.front;
          call = m.call;
          after = m.after;
          split = ap (λ l. c ∷ l) m.split;
          line_is = (let at = m.line_is in omega (arith, at));
          owner = m.owner;
          place = size ∙ m.place;
        }

-- without such a call the client has fewer calls
line_none : (client before line : ℕ) (calls : List Call) →
    line_of_call client before line (map Ok calls) ≡ None → length (asked_by client calls) ≤ before
line_none client before line [] h = omega arith
line_none client before line (c ∷ calls) h =
    go (c.client == client) refl (line_none client before (line + 1) calls)
    (λ g. line_none client (before - 1) (line + 1) calls g) h
  where
    own : (c.client == client) ≡ true → (b : Bool) → (before == 0) ≡ b →
        (line_of_call client (before - 1) (line + 1) (map Ok calls) ≡ None →
        length (asked_by client calls) ≤ before - 1) →
        cond b (Some line) (line_of_call client (before - 1) (line + 1) (map Ok calls)) ≡ None →
        length (asked_by client (c ∷ calls)) ≤ before
    own e true z more g = absurd (some_none line g)
    own e false z more g =
        let few = more g in
        let size = more_asked client c calls e in
        let some : 1 ≤ before = grind (arith, nat_tests) in omega (arith, few, size, some)

    go : (b : Bool) → (c.client == client) ≡ b → (line_of_call client before (line + 1) (map Ok calls) ≡ None →
        length (asked_by client calls) ≤ before) →
        (line_of_call client (before - 1) (line + 1) (map Ok calls) ≡ None →
        length (asked_by client calls) ≤ before - 1) →
        cond b (cond (before == 0) (Some line) (line_of_call client (before - 1) (line + 1) (map Ok calls)))
        (line_of_call client before (line + 1) (map Ok calls)) ≡ None →
        length (asked_by client (c ∷ calls)) ≤ before
    go true e other more g = own e (before == 0) refl more g
    go false e other more g =
        let few = other g in
        let size = same_asked client c calls e in omega (arith, few, size)

missing_same : (a b c d : ℕ) → Missing a b ≡ Missing c d → (a ≡ c) × (b ≡ d)
missing_same a b c d e = (cc, cc)

left_same : (k line : ℕ) → LeftOut k ≡ LeftOut line → k ≡ line
left_same k line e = cc

-- the order does not submit a task, and so says its verdict
record IsMissed (n : ℕ) (tasks bytes text : List ℕ) (verdict : OrderVerdict) : Type 0 where
  client : ℕ
  number : ℕ
  held : workload_verdict n tasks text ≡ Missing client number
  told : unless_left_out (line_of_call client (number - 1) 1 (map line_call (lines_of bytes))) client number ≡ verdict

-- a verdict of this kind comes from a missing task alone
abbrev IsOfMissing : OrderVerdict → Type 0
IsOfMissing (LeftOut line) = ⊤
IsOfMissing (Held (Missing client number)) = ⊤
IsOfMissing verdict = ⊥

missed_told : (lines : List (Result Call CallFault)) (held : WorkloadVerdict) (verdict : OrderVerdict) →
    told_by_lines lines held ≡ verdict → IsOfMissing verdict →
    (it : ℕ × ℕ) × (held ≡ Missing it.0 it.1)
    × (unless_left_out (line_of_call it.0 (it.1 - 1) 1 lines) it.0 it.1 ≡ verdict)
missed_told lines (Missing client number) verdict e i = ((client, number), refl, e)
missed_told lines (Judged v) verdict e i = absurd (subst IsOfMissing (sym e) i)
missed_told lines (BadTasks line) verdict e i = absurd (subst IsOfMissing (sym e) i)
missed_told lines (Foreign line) verdict e i = absurd (subst IsOfMissing (sym e) i)

missed : (n : ℕ) (tasks bytes text : List ℕ) (verdict : OrderVerdict) → IsOfMissing verdict →
    order_verdict n tasks bytes text ≡ verdict → IsMissed n tasks bytes text verdict
missed n tasks bytes text verdict i h = go (work_of (map line_asked (lines_of tasks))) refl h
  where
    go : (w : Result (List Asked) ℕ) → work_of (map line_asked (lines_of tasks)) ≡ w →
        order_held_by n w bytes text ≡ verdict → IsMissed n tasks bytes text verdict
    go (Err line) e g = absurd (subst IsOfMissing (sym g) i)
    go (Ok work) e g = decide (first_foreign work [] (map line_call (lines_of bytes))) g
      where
        decide : (found : Option ℕ) →
            unless_foreign found (told_by_lines (map line_call (lines_of bytes)) (held_against_work n work text))
            ≡ verdict → IsMissed n tasks bytes text verdict
        decide (Some line) g = absurd (subst IsOfMissing (sym g) i)
        decide None g =
            let m = missed_told (map line_call (lines_of bytes)) (held_against_work n work text) verdict g i in
            record {
              client = m.0.0;
              number = m.0.1;
              held = ap (λ w. held_by n w text) e ∙ m.1;
              told = m.2;
            }

pub missing_positive : (n : ℕ) (tasks text : List ℕ) (client number : ℕ) → IsFirstMissing n tasks text client number →
    1 ≤ number
missing_positive n tasks text client number m = let is = m.number_is in omega (arith, is)

pub missing_never : MissingIsFirst → (n : ℕ) (tasks bytes text : List ℕ) (calls order : List Call) →
    IsReordered bytes text calls order → (client number : ℕ) →
    order_verdict n tasks bytes text ≡ Held (Missing client number) →
    IsNeverSubmitted n tasks text calls client number
missing_never first n tasks bytes text calls order r client number h =
    let m = missed n tasks bytes text (Held (Missing client number)) tt h in
    decide m.client m.number m.held (line_of_call m.client (m.number - 1) 1 (map line_call (lines_of bytes))) refl
    m.told
  where
    decide : (k i : ℕ) → workload_verdict n tasks text ≡ Missing k i → (found : Option ℕ) →
        line_of_call k (i - 1) 1 (map line_call (lines_of bytes)) ≡ found →
        unless_left_out found k i ≡ Held (Missing client number) → IsNeverSubmitted n tasks text calls client number
    decide k i held (Some line) e g = absurd (left_not line (Missing client number) g)
    decide k i held None e g =
        let same = missing_same k i client number (held_same (Missing k i) (Missing client number) g) in
        let missing = (first n tasks text k i).0 held in
        let some = missing_positive n tasks text k i missing in
        let few = line_none k (i - 1) 1 calls (ap (line_of_call k (i - 1) 1) (sym r.listed) ∙ e) in
        let fewer : length (asked_by k calls) < i = omega (arith, some, few) in
        subst (λ x. IsNeverSubmitted n tasks text calls x number) same.0
        (subst (λ x. IsNeverSubmitted n tasks text calls k x) same.1 (record { missing = missing; fewer = fewer }))

pub missing_is_never_submitted : MissingIsFirst → MissingIsNeverSubmitted
missing_is_never_submitted first = λ n tasks bytes text calls order r. missing_never first n tasks bytes text calls
    order r

-- ---- a call that is left out

each_client : (P : Call → Type 0) (k : ℕ) (cs : List Call) → EachCall P cs → EachCall P (of_client k cs)
each_client P k [] h = tt
each_client P k (c ∷ cs) h = go (c.client == k) (each_client P k cs h.1)
  where
    go : (b : Bool) → EachCall P (of_client k cs) → EachCall P (cond b (c ∷ of_client k cs) (of_client k cs))
    go true more = (h.0, more)
    go false more = more

-- an element behind the first part of a list is one of the second part
behind : (P : Call → Type 0) (xs left ys : List Call) (c : Call) (rest : List Call) → xs ++ left ≡ ys ++ c ∷ rest →
    length xs ≤ length ys → EachCall P left → P c
behind P [] (d ∷ left) [] c rest e l h =
    let two = tail_same d c left rest e in subst P two.0 h.0
behind P [] [] [] c rest e l h = absurd (let bad : ◌≡◌ {A = List Call} [] (c ∷ rest) = e in cc)
behind P [] [] (y ∷ ys) c rest e l h = absurd (let bad : ◌≡◌ {A = List Call} [] (y ∷ (ys ++ c ∷ rest)) = e in cc)
behind P [] (d ∷ left) (y ∷ ys) c rest e l h =
    behind P [] left ys c rest (tail_same d y left (ys ++ c ∷ rest) e).1 (omega arith) h.1
behind P (x ∷ xs) left [] c rest e l h = absurd (omega (arith, l))
behind P (x ∷ xs) left (y ∷ ys) c rest e l h =
    behind P xs left ys c rest (tail_same x y (xs ++ left) (ys ++ c ∷ rest) e).1 (omega (arith, l)) h

client_size : (k : ℕ) (calls : List Call) → length (asked_by k calls) ≡ length (of_client k calls)
client_size k [] = refl
client_size k (c ∷ calls) = go (c.client == k) (client_size k calls)
  where
    go : (b : Bool) → length (asked_by k calls) ≡ length (of_client k calls) →
        length (cond b (c.op ∷ asked_by k calls) (asked_by k calls))
        ≡ length (cond b (c ∷ of_client k calls) (of_client k calls))
    go true e = ap suc e
    go false e = e

pub left_pending : MissingIsFirst → (n : ℕ) (tasks bytes text : List ℕ) (calls order : List Call) →
    IsReordered bytes text calls order → (line : ℕ) → order_verdict n tasks bytes text ≡ LeftOut line →
    IsLeftOutOfOrder n tasks text calls order line
left_pending first n tasks bytes text calls order r line h =
    let m = missed n tasks bytes text (LeftOut line) tt h in
    decide m.client m.number m.held (line_of_call m.client (m.number - 1) 1 (map line_call (lines_of bytes))) refl
    m.told
  where
    decide : (k i : ℕ) → workload_verdict n tasks text ≡ Missing k i → (found : Option ℕ) →
        line_of_call k (i - 1) 1 (map line_call (lines_of bytes)) ≡ found →
        unless_left_out found k i ≡ LeftOut line → IsLeftOutOfOrder n tasks text calls order line
    decide k i held None e g = absurd (left_not line (Missing k i) (sym g))
    decide k i held (Some at) e g =
        let same = left_same at line g in
        let missing = (first n tasks text k i).0 held in
        let some = missing_positive n tasks text k i missing in
        let c = line_found k (i - 1) 1 calls at (ap (line_of_call k (i - 1) 1) (sym r.listed) ∙ e) in
        let same_order : missing.calls ≡ order = oks_same missing.calls order (sym missing.listed ∙ r.written) in
        let few : length (asked_by k order) < i =
        subst (λ cs. length (asked_by k cs) < i) same_order (few_made n tasks text k i missing) in
        let own : (c.call.client == k) ≡ true = ap (λ x. x == k) c.owner ∙ self_is k in
        let parts : of_client k order ++ of_client k r.orders.left
        ≡ of_client k c.front ++ c.call ∷ of_client k c.after =
        sym (client_parts calls order r.orders k) ∙ ap (of_client k) c.split
        ∙ client_both k c.front (c.call ∷ c.after)
        ∙ ap (λ b. of_client k c.front ++ cond b (c.call ∷ of_client k c.after) (of_client k c.after)) own in
        let one = client_size k order in
        let two = client_size k c.front in
        let place = c.place in
        let within : length (of_client k order) ≤ length (of_client k c.front) =
        omega (arith, one, two, place, few, some) in
        let at_is = c.line_is in
        record {
          client = k;
          number = i;
          missing = missing;
          before = c.front;
          call = c.call;
          after = c.after;
          split = c.split;
          line_is = omega (arith, same, at_is);
          owner = c.owner;
          place = omega (arith, place, some);
          left_out = few;
          pending = behind (λ x. is_completed x ≡ false) (of_client k order) (of_client k r.orders.left)
              (of_client k c.front) c.call (of_client k c.after) parts within
              (each_client (λ x. is_completed x ≡ false) k r.orders.left r.orders.never);
        }

pub left_out_is_pending : MissingIsFirst → LeftOutIsPending
left_out_is_pending first = λ n tasks bytes text calls order r. left_pending first n tasks bytes text calls order r
