-- A verdict that names a missing task names the first that is left out.
use Rattle.std.proofs.Common.{◌≡◌, ◌⊎◌, ℕ, ◌+◌, ◌<◌, ◌≤◌, ◌==◌, ◌&&◌, suc, zero, Bool, true, false, not, cond, List, []}
use Rattle.std.proofs.Common.{◌∷◌, ◌++◌, length, map, Option, Some, None, Result, Ok, Err, refl, sym, ap, subst, ◌∙◌}
use Rattle.std.proofs.Common.{inl, inr, arith, append_assoc, length-append, nat_le}
use Rattle.std.proofs.lemmas.Bool.{cases_lt}
use Rattle.std.proofs.lemmas.Bool.Decides.{nat_tests}
use Rattle.std.proofs.lemmas.List.{map-append}
use Rattle.vac_lines.specs.Lines.{lines_of}
use Rattle.vac_model.specs.TaskText.{task_text}
use Rattle.judge_calls.specs.declared.verdict.Verdict.{Verdict}
use Rattle.judge_calls.specs.declared.verdict.Verdict.TheVariants.{Legal, Fault, Illegal}
use Rattle.judge_calls.specs.declared.held.WorkloadVerdict.TheVariants.{BadTasks, Missing}
use Rattle.judge_calls.specs.Call.{Call, line_call}
use Rattle.judge_calls.specs.Verdict.{verdict_on, is_legal}
use Rattle.judge_calls.specs.Laws.{LegalIsLinearization}
use Rattle.judge_calls.specs.Work.{Asked, line_asked, work_of, tasks_of, made_by, has_stopped, first_foreign, calls_in}
use Rattle.judge_calls.specs.Work.{is_missing, first_missing, unless_missing, joined_verdict, held_by, workload_verdict}
use Rattle.judge_calls.specs.Whole.{asked_by, forms}
use Rattle.judge_calls.specs.NotWhole.{AskForFirst, AsksForTask, IsSettled, IsLeftOut, IsFirstMissing, MissingIsFirst}
use Rattle.judge_calls.proofs.Handed.{Test, test, found_open}
use Rattle.judge_calls.proofs.Done.{false_true, work_lines, lines_work, goes_on, none_foreign, made_in, stopped_in}
use Rattle.judge_calls.proofs.Done.{not_both, closed_more, closed_stop, forms_size}
use Rattle.judge_calls.proofs.NotWhole.{named_missing, asked_split, tasks_split}

-- ---- a call that asks for a task

-- a client's call, of whom so many stand before it
record CallAt (k : ℕ) (calls : List Call) (m : ℕ) : Type 0 where
  earlier : List Call
  call : Call
  later : List Call
  split : calls ≡ earlier ++ call ∷ later
  client : call.client ≡ k
  place : length (asked_by k earlier) ≡ m

call_at : (k : ℕ) (calls : List Call) (m : ℕ) → m < length (asked_by k calls) → CallAt k calls m
call_at k [] m h = absurd (omega (arith, h))
call_at k (c ∷ cs) m h = turn (λ i g. call_at k cs i g) (test c.client k) m h
  where
    turn : ((i : ℕ) → i < length (asked_by k cs) → CallAt k cs i) → Test c.client k → (i : ℕ)
        → i < length (asked_by k (c ∷ cs)) → CallAt k (c ∷ cs) i
    turn next (inl same) zero g = record {
      earlier = [];
      call = c;
      later = cs;
      split = refl;
      client = same.1;
      place = refl;
    }
    turn next (inl same) (suc i) g =
        let size : length (asked_by k (c ∷ cs)) ≡ suc (length (asked_by k cs)) =
        ap (λ b. length (cond b (c.op ∷ asked_by k cs) (asked_by k cs))) same.0 in
        let more = next i (omega (arith, g, size)) in
        record {
          earlier = c ∷ more.earlier;
          call = more.call;
          later = more.later;
          split = ap (λ t. c ∷ t) more.split;
          client = more.client;
          place = ap (λ b. length (cond b (c.op ∷ asked_by k more.earlier) (asked_by k more.earlier))) same.0
              ∙ ap suc more.place;
        }
    turn next (inr other) i g =
        let size : length (asked_by k (c ∷ cs)) ≡ length (asked_by k cs) =
        ap (λ b. length (cond b (c.op ∷ asked_by k cs) (asked_by k cs))) other.0 in
        let more = next i (omega (arith, g, size)) in
        record {
          earlier = c ∷ more.earlier;
          call = more.call;
          later = more.later;
          split = ap (λ t. c ∷ t) more.split;
          client = more.client;
          place = ap (λ b. length (cond b (c.op ∷ asked_by k more.earlier) (asked_by k more.earlier))) other.0
              ∙ more.place;
        }

same_head : (xs ys : List (List ℕ)) (a b : List ℕ) (us vs : List (List ℕ)) → length xs ≡ length ys
    → xs ++ a ∷ us ≡ ys ++ b ∷ vs → a ≡ b
same_head [] [] a b us vs n e = cc
same_head [] (y ∷ ys) a b us vs n e = absurd (omega (arith, n))
same_head (x ∷ xs) [] a b us vs n e = absurd (omega (arith, n))
same_head (x ∷ xs) (y ∷ ys) a b us vs n e =
    let rest : xs ++ a ∷ us ≡ ys ++ b ∷ vs = cc in
    same_head xs ys a b us vs (omega (arith, n)) rest

-- where a client made more calls than it had tasks before this one, one of them asks for it
asks_for : (work : List Asked) (calls : List Call) (front : List Asked) (one : Asked) (after : List Asked)
    → work ≡ front ++ one ∷ after → AskForFirst one.client work calls
    → length (tasks_of one.client front) < length (asked_by one.client calls) → AsksForTask calls front one
asks_for work calls front one after w a h =
    let k = one.client in
    let it = call_at k calls (length (tasks_of k front)) h in
    let done = forms (asked_by k it.earlier) in
    let rest = forms (asked_by k it.later) in
    let tasks : forms (tasks_of k work) ≡ forms (tasks_of k front) ++ task_text one.task ∷ forms (tasks_of k after) =
    ap (λ l. forms (tasks_of k l)) w ∙ ap forms (tasks_split front one after)
    ∙ map-append task_text (tasks_of k front) (one.task ∷ tasks_of k after) in
    let asked : forms (asked_by k calls) ≡ done ++ task_text it.call.op ∷ rest =
    ap (λ l. forms (asked_by k l)) it.split ∙ ap forms (asked_split k it.earlier it.call it.later it.client)
    ∙ map-append task_text (asked_by k it.earlier) (it.call.op ∷ asked_by k it.later) in
    let whole : done ++ task_text it.call.op ∷ (rest ++ a.0)
    ≡ forms (tasks_of k front) ++ task_text one.task ∷ forms (tasks_of k after) =
    sym (append_assoc done (task_text it.call.op ∷ rest) a.0) ∙ ap (λ l. l ++ a.0) (sym asked) ∙ sym a.1 ∙ tasks in
    let size : length done ≡ length (forms (tasks_of k front)) =
    forms_size (asked_by k it.earlier) ∙ it.place ∙ sym (forms_size (tasks_of k front)) in
    record {
      earlier = it.earlier;
      call = it.call;
      later = it.later;
      split = it.split;
      client = it.client;
      place = it.place;
      form = same_head done (forms (tasks_of k front)) (task_text it.call.op) (task_text one.task) (rest ++ a.0)
          (forms (tasks_of k after)) size whole;
    }

-- and where one does, it made more
asked_more : (calls : List Call) (front : List Asked) (one : Asked) → AsksForTask calls front one
    → length (tasks_of one.client front) < length (asked_by one.client calls)
asked_more calls front one a =
    let k = one.client in
    let size : length (asked_by k calls) ≡ length (asked_by k a.earlier) + suc (length (asked_by k a.later)) =
    ap (λ l. length (asked_by k l)) a.split ∙ ap length (asked_split k a.earlier a.call a.later a.client)
    ∙ length-append (asked_by k a.earlier) (a.call.op ∷ asked_by k a.later) in
    let place = a.place in
    omega (arith, size, place)

-- ---- the first task that is left out

-- a client is open as its calls and answers say
missing_in : (k m : ℕ) (calls : List Call) → is_missing (calls_in [] (map Ok calls)) k m
    ≡ (nat_le (length (asked_by k calls)) m && not (has_stopped k calls))
missing_in k m calls =
    let all = calls_in [] (map Ok calls) in
    let made : made_by k all ≡ 0 + length (asked_by k calls) = made_in k [] calls in
    let size : made_by k all ≡ length (asked_by k calls) = omega (arith, made) in
    ap (λ i. nat_le i m && not (has_stopped k all)) size
    ∙ ap (λ b. nat_le (length (asked_by k calls)) m && not b) (stopped_in k [] calls)

never : (b : Bool) → (b && false) ≡ false
never true = refl
never false = refl

open_parts : (a m : ℕ) (s : Bool) → (nat_le a m && not s) ≡ true → (a ≤ m) × (s ≡ false)
open_parts a m true h = absurd (false_true (sym (never (nat_le a m)) ∙ h))
open_parts a m false h = let few : a ≤ m = grind (arith, nat_tests) in (few, refl)

closed_parts : (a m : ℕ) (s : Bool) → (nat_le a m && not s) ≡ false → (m < a) ⊎ (s ≡ true)
closed_parts a m true h = inr refl
closed_parts a m false h = inl (not_both a m false refl h)

left_out_of : (calls : List Call) (front : List Asked) (one : Asked)
    → is_missing (calls_in [] (map Ok calls)) one.client (length (tasks_of one.client front)) ≡ true
    → IsLeftOut calls front one
left_out_of calls front one h =
    let k = one.client in
    let m = length (tasks_of k front) in
    let parts = open_parts (length (asked_by k calls)) m (has_stopped k calls) (sym (missing_in k m calls) ∙ h) in
    record {
      none = λ a. (let more = asked_more calls front one a in omega (arith, more, parts.0));
      answered = parts.1;
    }

of_left_out : (work : List Asked) (calls : List Call) (front : List Asked) (one : Asked) (after : List Asked)
    → work ≡ front ++ one ∷ after → AskForFirst one.client work calls → IsLeftOut calls front one
    → is_missing (calls_in [] (map Ok calls)) one.client (length (tasks_of one.client front)) ≡ true
of_left_out work calls front one after w a l =
    let k = one.client in
    let m = length (tasks_of k front) in
    let few : length (asked_by k calls) ≤ m =
    elim (cases_lt m (length (asked_by k calls))) [
      | inl h ↦ absurd (l.none (asks_for work calls front one after w a h))
      | inr h ↦ h
    ] in
    missing_in k m calls ∙ found_open (length (asked_by k calls)) m (has_stopped k calls) few l.answered

settled_of : (work : List Asked) (calls : List Call) (front : List Asked) (one : Asked) (after : List Asked)
    → work ≡ front ++ one ∷ after → AskForFirst one.client work calls
    → is_missing (calls_in [] (map Ok calls)) one.client (length (tasks_of one.client front)) ≡ false
    → IsSettled calls front one
settled_of work calls front one after w a h =
    let k = one.client in
    let m = length (tasks_of k front) in
    elim (closed_parts (length (asked_by k calls)) m (has_stopped k calls) (sym (missing_in k m calls) ∙ h)) [
      | inl l ↦ inl (asks_for work calls front one after w a l)
      | inr s ↦ inr s
    ]

of_settled : (calls : List Call) (front : List Asked) (one : Asked) → IsSettled calls front one
    → is_missing (calls_in [] (map Ok calls)) one.client (length (tasks_of one.client front)) ≡ false
of_settled calls front one (inl a) =
    missing_in one.client (length (tasks_of one.client front)) calls
    ∙ closed_more (length (asked_by one.client calls)) (length (tasks_of one.client front))
    (has_stopped one.client calls) (asked_more calls front one a)
of_settled calls front one (inr s) =
    missing_in one.client (length (tasks_of one.client front)) calls
    ∙ closed_stop (length (asked_by one.client calls)) (length (tasks_of one.client front))
    (has_stopped one.client calls) s

-- how many tasks a client was handed in work of two parts
abbrev handed_to : ℕ → List Asked → List Asked → ℕ
handed_to k before front = length (tasks_of k before) + length (tasks_of k front)

moved : (k : ℕ) (a : Asked) (before front : List Asked)
    → handed_to k (a ∷ before) front ≡ handed_to k before (a ∷ front)
moved k a before front = split (a.client == k)
  where
    split : (b : Bool) → length (cond b (a.task ∷ tasks_of k before) (tasks_of k before)) + length (tasks_of k front)
        ≡ length (tasks_of k before) + length (cond b (a.task ∷ tasks_of k front) (tasks_of k front))
    split true = omega arith
    split false = refl

plain : (n : ℕ) → n ≡ n + 0
plain n = omega arith

zero_left : (n : ℕ) → 0 + n ≡ n
zero_left n = omega arith

-- each of these tasks is settled, as the numbers say
abbrev Closed : List Call → List Asked → List Asked → Type 0
Closed all before front = (first rest : List Asked) (one : Asked) → front ≡ first ++ one ∷ rest
    → is_missing all one.client (handed_to one.client before first) ≡ false

closed_none : (all : List Call) (before : List Asked) → Closed all before []
closed_none all before [] rest one s = absurd (let e = s in cc)
closed_none all before (x ∷ first) rest one s = absurd (let e = s in cc)

closed_one : (all : List Call) (a : Asked) (before front : List Asked)
    → is_missing all a.client (length (tasks_of a.client before)) ≡ false → Closed all (a ∷ before) front
    → Closed all before (a ∷ front)
closed_one all a before front e more [] rest one s =
    let same : a ≡ one = cc in
    subst (λ (x : Asked). is_missing all x.client (handed_to x.client before []) ≡ false) same
    (subst (λ m. is_missing all a.client m ≡ false) (plain (length (tasks_of a.client before))) e)
closed_one all a before front e more (x ∷ first) rest one s =
    let same : a ≡ x = cc in
    let tail : front ≡ first ++ one ∷ rest = cc in
    subst (λ (y : Asked). is_missing all one.client (handed_to one.client before (y ∷ first)) ≡ false) same
    (subst (λ m. is_missing all one.client m ≡ false) (moved one.client a before first) (more first rest one tail))

-- such a task stands after tasks that are settled
record LeftAt (all : List Call) (before work : List Asked) (client number : ℕ) : Type 0 where
  front : List Asked
  task : Asked
  after : List Asked
  split : work ≡ front ++ task ∷ after
  owner : task.client ≡ client
  number_is : number ≡ handed_to client before front + 1
  missing : is_missing all client (handed_to client before front) ≡ true
  closed : Closed all before front

none_pair : (it : ℕ × ℕ) → ◌≡◌ {A = Option (ℕ × ℕ)} None (Some it) → ⊥
none_pair it e = cc

pair_same : (a b c d : ℕ) → ◌≡◌ {A = Option (ℕ × ℕ)} (Some (a, b)) (Some (c, d)) → (a ≡ c) × (b ≡ d)
pair_same a b c d e =
    let same : ◌≡◌ {A = ℕ × ℕ} (a, b) (c, d) = cc in
    (ap (λ (p : ℕ × ℕ). p.0) same, ap (λ (p : ℕ × ℕ). p.1) same)

find_left : (all : List Call) (before work : List Asked) (client number : ℕ)
    → first_missing all before work ≡ Some (client, number) → LeftAt all before work client number
find_left all before [] client number h = absurd (none_pair (client, number) h)
find_left all before (a ∷ work) client number h =
    go (λ g. find_left all (a ∷ before) work client number g)
    (is_missing all a.client (length (tasks_of a.client before))) refl h
  where
    go : (first_missing all (a ∷ before) work ≡ Some (client, number) → LeftAt all (a ∷ before) work client number)
        → (b : Bool) → is_missing all a.client (length (tasks_of a.client before)) ≡ b
        → cond b (Some (a.client, length (tasks_of a.client before) + 1)) (first_missing all (a ∷ before) work)
        ≡ Some (client, number) → LeftAt all before (a ∷ work) client number
    go next true e g =
        let same = pair_same a.client (length (tasks_of a.client before) + 1) client number g in
        let own = subst (λ k. is_missing all k (length (tasks_of k before)) ≡ true) same.0 e in
        record {
          front = [];
          task = a;
          after = work;
          split = refl;
          owner = same.0;
          number_is = sym same.1
              ∙ ap (λ m. m + 1) (ap (λ k. length (tasks_of k before)) same.0 ∙ plain (length (tasks_of client before)));
          missing = subst (λ m. is_missing all client m ≡ true) (plain (length (tasks_of client before))) own;
          closed = closed_none all before;
        }
    go next false e g =
        let more = next g in
        record {
          front = a ∷ more.front;
          task = more.task;
          after = more.after;
          split = ap (λ t. a ∷ t) more.split;
          owner = more.owner;
          number_is = more.number_is ∙ ap (λ m. m + 1) (moved client a before more.front);
          missing = subst (λ m. is_missing all client m ≡ true) (moved client a before more.front) more.missing;
          closed = closed_one all a before more.front e more.closed;
        }

left_named : (all : List Call) (before front : List Asked) (task : Asked) (after : List Asked)
    → Closed all before front → is_missing all task.client (handed_to task.client before front) ≡ true
    → first_missing all before (front ++ task ∷ after) ≡ Some (task.client, handed_to task.client before front + 1)
left_named all before [] task after closed missing =
    let here = plain (length (tasks_of task.client before)) in
    ap (λ b. cond b (Some (task.client, length (tasks_of task.client before) + 1))
    (first_missing all (task ∷ before) after))
    (subst (λ m. is_missing all task.client m ≡ true) (sym here) missing)
    ∙ ap (λ m. Some (task.client, m + 1)) here
left_named all before (a ∷ front) task after closed missing =
    let own = subst (λ m. is_missing all a.client m ≡ false) (sym (plain (length (tasks_of a.client before))))
    (closed [] front a refl) in
    let more : Closed all (a ∷ before) front =
    λ first rest one s. subst (λ m. is_missing all one.client m ≡ false) (sym (moved one.client a before first))
    (closed (a ∷ first) rest one (ap (λ t. a ∷ t) s)) in
    ap (λ b. cond b (Some (a.client, length (tasks_of a.client before) + 1))
    (first_missing all (a ∷ before) (front ++ task ∷ after))) own
    ∙ left_named all (a ∷ before) front task after more
    (subst (λ m. is_missing all task.client m ≡ true) (sym (moved task.client a before front)) missing)
    ∙ ap (λ m. Some (task.client, m + 1)) (moved task.client a before front)

missing_first : LegalIsLinearization → (n : ℕ) (tasks bytes : List ℕ) (client number : ℕ)
    → workload_verdict n tasks bytes ≡ Missing client number → IsFirstMissing n tasks bytes client number
missing_first legal n tasks bytes client number h = go (work_of (map line_asked (lines_of tasks))) refl h
  where
    go : (r : Result (List Asked) ℕ) → work_of (map line_asked (lines_of tasks)) ≡ r
        → held_by n r bytes ≡ Missing client number → IsFirstMissing n tasks bytes client number
    go (Err k) e g = absurd (let bad : BadTasks k ≡ Missing client number = g in cc)
    go (Ok work) e g =
        let lines = map line_call (lines_of bytes) in
        let is = named_missing (first_foreign work [] lines) (first_missing (calls_in [] lines) [] work)
        (verdict_on n bytes) client number g in
        let found = (legal n bytes).0 is.2 in
        let all = calls_in [] (map Ok found.calls) in
        let asked = goes_on work [] found.calls (ap (first_foreign work []) (sym found.listed) ∙ is.0) in
        let f = find_left all [] work client number
        (ap (λ ls. first_missing (calls_in [] ls) [] work) (sym found.listed) ∙ is.1) in
        let left = subst (λ m. is_missing all client m ≡ true) (zero_left (length (tasks_of client f.front)))
        f.missing in
        record {
          work = work;
          calls = found.calls;
          handed = work_lines (map line_asked (lines_of tasks)) work e;
          listed = found.listed;
          linearization = found.linearization;
          asked = asked;
          before = f.front;
          task = f.task;
          after = f.after;
          split = f.split;
          owner = f.owner;
          number_is = f.number_is ∙ ap (λ m. m + 1) (zero_left (length (tasks_of client f.front)));
          left_out = left_out_of found.calls f.front f.task
              (subst (λ k. is_missing all k (length (tasks_of k f.front)) ≡ true) (sym f.owner) left);
          settled = λ first rest one s. settled_of work found.calls first one (rest ++ f.task ∷ f.after)
              (f.split ∙ ap (λ l. l ++ f.task ∷ f.after) s ∙ append_assoc first (one ∷ rest) (f.task ∷ f.after))
              (asked one.client)
              (subst (λ m. is_missing all one.client m ≡ false) (zero_left (length (tasks_of one.client first)))
              (f.closed first rest one s));
        }

named_legal : (it : ℕ × ℕ) (v : Verdict) → is_legal v ≡ true → unless_missing (Some it) v ≡ Missing it.0 it.1
named_legal it (Legal s) h = refl
named_legal it (Fault k f) h = absurd (false_true h)
named_legal it (Illegal k w) h = absurd (false_true h)

first_left : LegalIsLinearization → (n : ℕ) (tasks bytes : List ℕ) (client number : ℕ)
    → IsFirstMissing n tasks bytes client number → workload_verdict n tasks bytes ≡ Missing client number
first_left legal n tasks bytes client number h =
    let lines = map line_call (lines_of bytes) in
    let all = calls_in [] (map Ok h.calls) in
    let work : work_of (map line_asked (lines_of tasks)) ≡ Ok h.work = ap work_of h.handed ∙ lines_work h.work in
    let foreign : first_foreign h.work [] lines ≡ None =
    ap (first_foreign h.work []) h.listed ∙ none_foreign h.work [] h.calls (λ k. ((h.asked k).0, (h.asked k).1)) in
    let k = h.task.client in
    let closed : Closed all [] h.before =
    λ first rest one s.
    subst (λ m. is_missing all one.client m ≡ false) (sym (zero_left (length (tasks_of one.client first))))
    (of_settled h.calls first one (h.settled first rest one s)) in
    let left = subst (λ m. is_missing all k m ≡ true) (sym (zero_left (length (tasks_of k h.before))))
    (of_left_out h.work h.calls h.before h.task h.after h.split (h.asked k) h.left_out) in
    let number_of : handed_to k [] h.before + 1 ≡ number =
    ap (λ m. m + 1) (zero_left (length (tasks_of k h.before)) ∙ ap (λ c. length (tasks_of c h.before)) h.owner)
    ∙ sym h.number_is in
    let missing : first_missing (calls_in [] lines) [] h.work ≡ Some (client, number) =
    ap (λ ls. first_missing (calls_in [] ls) [] h.work) h.listed ∙ ap (first_missing all []) h.split
    ∙ left_named all [] h.before h.task h.after closed left
    ∙ ap (λ c. Some (c, handed_to k [] h.before + 1)) h.owner ∙ ap (λ m. Some (client, m)) number_of in
    let is : is_legal (verdict_on n bytes) ≡ true =
    (legal n bytes).1 (record { calls = h.calls; listed = h.listed; linearization = h.linearization }) in
    ap (λ r. held_by n r bytes) work
    ∙ ap (λ f. joined_verdict f (first_missing (calls_in [] lines) [] h.work) (verdict_on n bytes)) foreign
    ∙ ap (λ m. joined_verdict None m (verdict_on n bytes)) missing
    ∙ named_legal (client, number) (verdict_on n bytes) is

pub missing_is_first : LegalIsLinearization → MissingIsFirst
missing_is_first legal =
    λ n tasks bytes client number. (
      missing_first legal n tasks bytes client number,
      first_left legal n tasks bytes client number,
    )

-- the calls of the client do not reach the task
pub few_made : (n : ℕ) (tasks bytes : List ℕ) (client number : ℕ) (h : IsFirstMissing n tasks bytes client number) →
    length (asked_by client h.calls) < number
few_made n tasks bytes client number h =
    let k = h.task.client in
    let m = length (tasks_of k h.before) in
    let missing = of_left_out h.work h.calls h.before h.task h.after h.split (h.asked k) h.left_out in
    let parts = open_parts (length (asked_by k h.calls)) m (has_stopped k h.calls)
    (sym (missing_in k m h.calls) ∙ missing) in
    let few : length (asked_by client h.calls) ≤ length (tasks_of client h.before) =
    subst (λ c. length (asked_by c h.calls) ≤ length (tasks_of c h.before)) h.owner parts.0 in
    omega (arith, few, h.number_is)
