-- A verdict that names a line of another task names the first.
use Rattle.std.proofs.Common.{◌≡◌, ℕ, ◌+◌, ◌≤◌, suc, Bool, true, false, cond, List, [], ◌∷◌, ◌++◌, length, map, drop}
use Rattle.std.proofs.Common.{Option, Some, None, Result, Ok, Err, refl, sym, ap, subst, ◌∙◌, arith, append_assoc}
use Rattle.std.proofs.Common.{nat_le}
use Rattle.std.proofs.Math.Seq.{drop-append_seam}
use Rattle.std.proofs.lemmas.Bool.Decides.{nat_tests}
use Rattle.std.proofs.lemmas.List.{map-append}
use Rattle.vac_model.specs.State.{State, empty_state}
use Rattle.vac_model.specs.Run.{run}
use Rattle.vac_lines.specs.Lines.{lines_of}
use Rattle.vac_model.specs.TaskText.{task_text}
use Rattle.judge_object.proofs.Order.{fails}
use Rattle.judge_calls.specs.declared.fault.CallFault.{CallFault}
use Rattle.judge_calls.specs.declared.verdict.CallViolation.{CallViolation}
use Rattle.judge_calls.specs.declared.verdict.Verdict.{Verdict}
use Rattle.judge_calls.specs.declared.verdict.Verdict.TheVariants.{Legal, Fault, Illegal}
use Rattle.judge_calls.specs.declared.held.WorkloadVerdict.TheVariants.{Judged, BadTasks, Foreign}
use Rattle.judge_calls.specs.Call.{Call, line_call}
use Rattle.judge_calls.specs.Order.{wrong_of}
use Rattle.judge_calls.specs.Verdict.{judged, unless_wrong, verdict_on}
use Rattle.judge_calls.specs.Work.{Asked, line_asked, work_of, tasks_of, made_by, is_next, first_foreign, calls_in}
use Rattle.judge_calls.specs.Work.{first_missing, comes_first, joined_verdict, held_by, workload_verdict}
use Rattle.judge_calls.specs.Whole.{asked_by, forms}
use Rattle.judge_calls.specs.NotWhole.{AskForFirst, IsFirstForeign, ForeignIsFirst}
use Rattle.judge_calls.proofs.Order.{right_of, wrong_none}
use Rattle.judge_calls.proofs.Linearized.{AllRight, linearized, right_from}
use Rattle.judge_calls.proofs.Done.{false_true, work_lines, lines_work, drop_at, at_drop, none_some, goes_on}
use Rattle.judge_calls.proofs.Done.{none_foreign, made_in, forms_size}
use Rattle.judge_calls.proofs.NotWhole.{is_foreign, asked_split}

-- ---- a client's calls and its tasks

-- as many calls of a client were counted as ask for its tasks
counted : (k : ℕ) (calls : List Call) → made_by k (calls_in [] (map Ok calls)) ≡ length (forms (asked_by k calls))
counted k calls =
    let made : made_by k (calls_in [] (map Ok calls)) ≡ 0 + length (asked_by k calls) = made_in k [] calls in
    let size = forms_size (asked_by k calls) in
    omega (arith, made, size)

with_one : (before : List Call) (c : Call)
    → forms (asked_by c.client before) ++ task_text c.op ∷ [] ≡ forms (asked_by c.client (before ++ c ∷ []))
with_one before c =
    sym (map-append task_text (asked_by c.client before) (c.op ∷ []))
    ∙ ap forms (sym (asked_split c.client before c [] refl))

-- where a call is its client's next, the client's calls with it ask for its first tasks
pub asks_with : (work : List Asked) (before : List Call) (c : Call) → AskForFirst c.client work before
    → is_next work (calls_in [] (map Ok before)) c ≡ true → AskForFirst c.client work (before ++ c ∷ [])
asks_with work before c a h =
    let tasks = forms (tasks_of c.client work) in
    let m = made_by c.client (calls_in [] (map Ok before)) in
    let done = forms (asked_by c.client before) in
    let more = drop (m + 1) tasks in
    let left : a.0 ≡ task_text c.op ∷ more =
    sym (drop-append_seam done a.0) ∙ ap (λ i. drop i (done ++ a.0)) (sym (counted c.client before))
    ∙ ap (drop m) (sym a.1) ∙ drop_at (tasks_of c.client work) m c.op h in (
      more,
      a.1 ∙ ap (λ l. done ++ l) left ∙ sym (append_assoc done (task_text c.op ∷ []) more)
          ∙ ap (λ l. l ++ more) (with_one before c),
    )

-- and where they do, it is
pub next_with : (work : List Asked) (before : List Call) (c : Call) → AskForFirst c.client work (before ++ c ∷ [])
    → is_next work (calls_in [] (map Ok before)) c ≡ true
next_with work before c a =
    let m = made_by c.client (calls_in [] (map Ok before)) in
    let done = forms (asked_by c.client before) in
    let whole : forms (tasks_of c.client work) ≡ done ++ task_text c.op ∷ a.0 =
    a.1 ∙ ap (λ l. l ++ a.0) (sym (with_one before c)) ∙ append_assoc done (task_text c.op ∷ []) a.0 in
    at_drop (tasks_of c.client work) m c.op a.0
    (ap (drop m) whole ∙ ap (λ i. drop i (done ++ task_text c.op ∷ a.0)) (counted c.client before)
    ∙ drop-append_seam done (task_text c.op ∷ a.0))

-- ---- the line that a verdict names, and the lines before it

le_of : (a b : ℕ) → nat_le a b ≡ true → a ≤ b
le_of a b h = grind (arith, nat_tests)

le_to : (a b : ℕ) → a ≤ b → nat_le a b ≡ true
le_to a b h = grind (arith, nat_tests)

sooner : (k m : ℕ) (v : Verdict) → k ≤ m → comes_first m v ≡ true → comes_first k v ≡ true
sooner k m (Legal s) l h = refl
sooner k m (Fault line fault) l h = le_to k line (omega (arith, l, le_of m line h))
sooner k m (Illegal line w) l h = le_to k line (omega (arith, l, le_of m line h))

-- calls before a line that comes first are right
right_before : (s : State) (earlier before : List Call) (rest : List (Result Call CallFault))
    → comes_first (length earlier + length before + 1) (judged s earlier (map Ok before ++ rest)) ≡ true
    → AllRight s earlier before
right_before s earlier [] rest h = tt
right_before s earlier (c ∷ before) rest h =
    go (λ g. right_before (run s c.op).0 (c ∷ earlier) before rest g) (wrong_of s earlier c) refl h
  where
    go : (comes_first (length (c ∷ earlier) + length before + 1)
        (judged (run s c.op).0 (c ∷ earlier) (map Ok before ++ rest)) ≡ true
        → AllRight (run s c.op).0 (c ∷ earlier) before) → (found : Option CallViolation) → wrong_of s earlier c ≡ found
        → comes_first (length earlier + length (c ∷ before) + 1) (unless_wrong found (length earlier + 1)
        (judged (run s c.op).0 (c ∷ earlier) (map Ok before ++ rest))) ≡ true → AllRight s earlier (c ∷ before)
    go next None e g =
        let same : length earlier + suc (length before) + 1 ≡ suc (length earlier) + length before + 1 = omega arith in
        let more = judged (run s c.op).0 (c ∷ earlier) (map Ok before ++ rest) in
        (right_of s earlier c e, next (subst (λ i. comes_first i more ≡ true) same g))
    go next (Some w) e g =
        let late = le_of (length earlier + suc (length before) + 1) (length earlier + 1) g in
        absurd (omega (arith, late))

-- the verdict names none of the calls that stand before
after_all : (s : State) (earlier : List Call) (lines : List (Result Call CallFault))
    → comes_first (length earlier + 1) (judged s earlier lines) ≡ true
after_all s earlier [] = refl
after_all s earlier (Err fault ∷ rest) = le_to (length earlier + 1) (length earlier + 1) (omega arith)
after_all s earlier (Ok c ∷ rest) = go (after_all (run s c.op).0 (c ∷ earlier) rest) (wrong_of s earlier c)
  where
    go : comes_first (length (c ∷ earlier) + 1) (judged (run s c.op).0 (c ∷ earlier) rest) ≡ true
        → (found : Option CallViolation) → comes_first (length earlier + 1)
        (unless_wrong found (length earlier + 1) (judged (run s c.op).0 (c ∷ earlier) rest)) ≡ true
    go next None =
        let more : length earlier + 1 ≤ suc (length earlier) + 1 = omega arith in
        sooner (length earlier + 1) (suc (length earlier) + 1) (judged (run s c.op).0 (c ∷ earlier) rest) more next
    go next (Some w) = le_to (length earlier + 1) (length earlier + 1) (omega arith)

-- so a line after right calls comes first
comes_after : (s : State) (earlier before : List Call) (lines : List (Result Call CallFault))
    → AllRight s earlier before
    → comes_first (length earlier + length before + 1) (judged s earlier (map Ok before ++ lines)) ≡ true
comes_after s earlier [] lines h =
    let same : length earlier + 1 ≡ length earlier + 0 + 1 = omega arith in
    subst (λ i. comes_first i (judged s earlier lines) ≡ true) same (after_all s earlier lines)
comes_after s earlier (c ∷ before) lines h =
    let same : suc (length earlier) + length before + 1 ≡ length earlier + suc (length before) + 1 = omega arith in
    let rest = judged (run s c.op).0 (c ∷ earlier) (map Ok before ++ lines) in
    ap (λ w. comes_first (length earlier + suc (length before) + 1) (unless_wrong w (length earlier + 1) rest))
    (wrong_none s earlier c h.0)
    ∙ subst (λ i. comes_first i rest ≡ true) same (comes_after (run s c.op).0 (c ∷ earlier) before lines h.1)

-- ---- the first line of another task

none_line : (line : ℕ) → ◌≡◌ {A = Option ℕ} None (Some line) → ⊥
none_line line e = cc

line_same : (k line : ℕ) → Some k ≡ Some line → k ≡ line
line_same k line e = cc

-- such a line stands after calls that ask for their clients' next tasks
pub record OtherAt (work : List Asked) (earlier : List Call) (lines : List (Result Call CallFault)) (line : ℕ) :
    Type 0 where
  pub before : List Call
  pub call : Call
  pub rest : List (Result Call CallFault)
  pub listed : lines ≡ map Ok before ++ Ok call ∷ rest
  pub number : line ≡ length earlier + length before + 1
  pub none : first_foreign work earlier (map Ok before) ≡ None
  pub other : is_next work (calls_in earlier (map Ok before)) call ≡ false

pub find_other : (work : List Asked) (earlier : List Call) (lines : List (Result Call CallFault)) (line : ℕ)
    → first_foreign work earlier lines ≡ Some line → OtherAt work earlier lines line
find_other work earlier [] line h = absurd (none_line line h)
find_other work earlier (Err fault ∷ rest) line h = absurd (none_line line h)
find_other work earlier (Ok c ∷ rest) line h =
    go (λ g. find_other work (c ∷ earlier) rest line g) (is_next work earlier c) refl h
  where
    go : (first_foreign work (c ∷ earlier) rest ≡ Some line → OtherAt work (c ∷ earlier) rest line) → (b : Bool)
        → is_next work earlier c ≡ b
        → cond b (first_foreign work (c ∷ earlier) rest) (Some (length earlier + 1)) ≡ Some line
        → OtherAt work earlier (Ok c ∷ rest) line
    go next true e g =
        let more = next g in
        record {
          before = c ∷ more.before;
          call = more.call;
          rest = more.rest;
          listed = ap (λ t. Ok c ∷ t) more.listed;
          number = omega (arith, more.number);
          none = ap (λ b. cond b (first_foreign work (c ∷ earlier) (map Ok more.before)) (Some (length earlier + 1))) e
              ∙ more.none;
          other = more.other;
        }
    go next false e g =
        let same = line_same (length earlier + 1) line g in
        record {
          before = [];
          call = c;
          rest = rest;
          listed = refl;
          number = omega (arith, same);
          none = refl;
          other = e;
        }

pub other_named : (work : List Asked) (earlier before : List Call) (call : Call) (rest : List (Result Call CallFault))
    → first_foreign work earlier (map Ok before) ≡ None
    → is_next work (calls_in earlier (map Ok before)) call ≡ false
    → first_foreign work earlier (map Ok before ++ Ok call ∷ rest) ≡ Some (length earlier + length before + 1)
other_named work earlier [] call rest h e =
    let same : length earlier + 1 ≡ length earlier + 0 + 1 = omega arith in
    ap (λ b. cond b (first_foreign work (call ∷ earlier) rest) (Some (length earlier + 1))) e ∙ ap Some same
other_named work earlier (c ∷ before) call rest h e =
    go (λ g. other_named work (c ∷ earlier) before call rest g e) (is_next work earlier c) refl h
  where
    go : (first_foreign work (c ∷ earlier) (map Ok before) ≡ None
        → first_foreign work (c ∷ earlier) (map Ok before ++ Ok call ∷ rest)
        ≡ Some (length (c ∷ earlier) + length before + 1)) → (b : Bool) → is_next work earlier c ≡ b
        → cond b (first_foreign work (c ∷ earlier) (map Ok before)) (Some (length earlier + 1)) ≡ None
        → first_foreign work earlier (map Ok (c ∷ before) ++ Ok call ∷ rest)
        ≡ Some (length earlier + length (c ∷ before) + 1)
    go next true t g =
        let same : suc (length earlier) + length before + 1 ≡ length earlier + suc (length before) + 1 = omega arith in
        let more = first_foreign work (c ∷ earlier) (map Ok before ++ Ok call ∷ rest) in
        ap (λ b. cond b more (Some (length earlier + 1))) t ∙ next g ∙ ap Some same
    go next false t g = absurd (none_some (length earlier + 1) g)

foreign_first : (n : ℕ) (tasks bytes : List ℕ) (line : ℕ) → workload_verdict n tasks bytes ≡ Foreign line
    → IsFirstForeign n tasks bytes line
foreign_first n tasks bytes line h = go (work_of (map line_asked (lines_of tasks))) refl h
  where
    go : (r : Result (List Asked) ℕ) → work_of (map line_asked (lines_of tasks)) ≡ r → held_by n r bytes ≡ Foreign line
        → IsFirstForeign n tasks bytes line
    go (Err k) e g = absurd (let bad : BadTasks k ≡ Foreign line = g in cc)
    go (Ok work) e g =
        let lines = map line_call (lines_of bytes) in
        let is = is_foreign (first_foreign work [] lines) (first_missing (calls_in [] lines) [] work)
        (verdict_on n bytes) line g in
        let f = find_other work [] lines line is.0 in
        let number : line ≡ 0 + length f.before + 1 = f.number in
        let comes = subst (λ ls. comes_first (0 + length f.before + 1) (judged (empty_state n) [] ls) ≡ true) f.listed
        (subst (λ i. comes_first i (verdict_on n bytes) ≡ true) number is.1) in
        record {
          work = work;
          before = f.before;
          call = f.call;
          rest = f.rest;
          handed = work_lines (map line_asked (lines_of tasks)) work e;
          listed = f.listed;
          number = omega (arith, number);
          legal = linearized n f.before (right_before (empty_state n) [] f.before (Ok f.call ∷ f.rest) comes);
          asked = goes_on work [] f.before f.none;
          foreign = λ a. false_true (sym f.other ∙ next_with work f.before f.call a);
        }

first_other : (n : ℕ) (tasks bytes : List ℕ) (line : ℕ) → IsFirstForeign n tasks bytes line
    → workload_verdict n tasks bytes ≡ Foreign line
first_other n tasks bytes line h =
    let lines = map line_call (lines_of bytes) in
    let work : work_of (map line_asked (lines_of tasks)) ≡ Ok h.work = ap work_of h.handed ∙ lines_work h.work in
    let other = fails (is_next h.work (calls_in [] (map Ok h.before)) h.call)
    (λ t. h.foreign (asks_with h.work h.before h.call (h.asked h.call.client) t)) in
    let number : 0 + length h.before + 1 ≡ line = omega (arith, h.number) in
    let foreign : first_foreign h.work [] lines ≡ Some line =
    ap (first_foreign h.work []) h.listed
    ∙ other_named h.work [] h.before h.call h.rest
    (none_foreign h.work [] h.before (λ k. ((h.asked k).0, (h.asked k).1))) other
    ∙ ap Some number in
    let comes : comes_first line (verdict_on n bytes) ≡ true =
    ap (λ ls. comes_first line (judged (empty_state n) [] ls)) h.listed
    ∙ ap (λ i. comes_first i (judged (empty_state n) [] (map Ok h.before ++ Ok h.call ∷ h.rest))) (sym number)
    ∙ comes_after (empty_state n) [] h.before (Ok h.call ∷ h.rest) (right_from n h.before h.legal) in
    ap (λ r. held_by n r bytes) work
    ∙ ap (λ f. joined_verdict f (first_missing (calls_in [] lines) [] h.work) (verdict_on n bytes)) foreign
    ∙ ap (λ b. cond b (Foreign line) (Judged (verdict_on n bytes))) comes

pub foreign_is_first : ForeignIsFirst
foreign_is_first n tasks bytes line = (foreign_first n tasks bytes line, first_other n tasks bytes line)
