-- A verdict on a history held against work is legal exactly where each client's calls ask for its tasks.
use Rattle.std.proofs.Common.{◌≡◌, ◌⊎◌, ℕ, ◌+◌, ◌<◌, ◌≤◌, ◌==◌, ◌&&◌, ◌||◌, suc, zero, Bool, true, false, not, cond}
use Rattle.std.proofs.Common.{List, [], ◌∷◌, ◌++◌, length, map, drop, Option, Some, None, Result, Ok, Err, refl, sym}
use Rattle.std.proofs.Common.{ap, subst, ◌∙◌, inl, inr, arith, length-append, nat_le}
use Rattle.std.specs.Prelude.{slice_get}
use Rattle.std.proofs.lemmas.Bool.Decides.{nat_tests}
use Rattle.std.proofs.lemmas.Slice.Eq.{bytes_eq-Decides}
use Rattle.vac_model.specs.declared.tasks.Task.{Task}
use Rattle.vac_lines.specs.Lines.{lines_of}
use Rattle.vac_model.specs.TaskText.{task_text}
use Rattle.judge_calls.specs.declared.fault.CallFault.{CallFault}
use Rattle.judge_calls.specs.declared.verdict.Verdict.{Verdict}
use Rattle.judge_calls.specs.declared.verdict.Verdict.TheVariants.{Legal, Fault, Illegal}
use Rattle.judge_calls.specs.declared.held.WorkloadVerdict.TheVariants.{Judged, Foreign}
use Rattle.judge_calls.specs.Call.{Call, line_call}
use Rattle.judge_calls.specs.Verdict.{verdict_on, is_legal}
use Rattle.judge_calls.specs.Laws.{LegalIsLinearization}
use Rattle.judge_calls.specs.Work.{Asked, line_asked, onto_work, work_of, tasks_of, made_by, is_last, has_stopped}
use Rattle.judge_calls.specs.Work.{is_that, is_next, first_foreign, calls_in, is_missing, first_missing, joined_verdict}
use Rattle.judge_calls.specs.Work.{held_by, workload_verdict, is_whole}
use Rattle.judge_calls.specs.Whole.{asked_by, forms, IsDoneBy, IsWholeHistory, LegalIsWhole}
use Rattle.judge_calls.proofs.Handed.{Test, test}

pub false_true : false ≡ true → ⊥
false_true e = cc

-- ---- what a legal verdict says

not_whole : (b : Bool) (line : ℕ) (v : Verdict) → is_legal v ≡ false →
    is_whole (cond b (Foreign line) (Judged v)) ≡ false
not_whole true line v h = refl
not_whole false line v h = h

joined_whole : (f : Option ℕ) (m : Option (ℕ × ℕ)) (v : Verdict) → is_whole (joined_verdict f m v) ≡ true →
    (f ≡ None) × (m ≡ None) × (is_legal v ≡ true)
joined_whole None None (Legal s) h = (refl, refl, refl)
joined_whole None None (Fault k f) h = absurd (false_true h)
joined_whole None None (Illegal k w) h = absurd (false_true h)
joined_whole None (Some m) (Legal s) h = absurd (false_true h)
joined_whole None (Some m) (Fault k f) h = absurd (false_true h)
joined_whole None (Some m) (Illegal k w) h = absurd (false_true h)
joined_whole (Some l) m (Legal s) h = absurd (false_true h)
joined_whole (Some l) m (Fault k f) h = absurd (false_true (sym (not_whole (nat_le l k) l (Fault k f) refl) ∙ h))
joined_whole (Some l) m (Illegal k w) h = absurd (false_true (sym (not_whole (nat_le l k) l (Illegal k w) refl) ∙ h))

-- ---- the lines of the work

ok_same : (xs ys : List Asked) → ◌≡◌ {A = Result (List Asked) ℕ} (Ok xs) (Ok ys) → xs ≡ ys
ok_same xs ys e = cc

err_ok : (k : ℕ) (ys : List Asked) → ◌≡◌ {A = Result (List Asked) ℕ} (Err k) (Ok ys) → ⊥
err_ok k ys e = cc

-- work that is read whole is that of its lines
pub work_lines : (lines : List (Result Asked CallFault)) (work : List Asked) → work_of lines ≡ Ok work →
    lines ≡ map Ok work
work_lines [] work e = ap (map Ok) (ok_same [] work e)
work_lines (Err fault ∷ rest) work e = absurd (err_ok 1 work e)
work_lines (Ok a ∷ rest) work e = go (λ more g. work_lines rest more g) (work_of rest) refl e
  where
    go : ((more : List Asked) → work_of rest ≡ Ok more → rest ≡ map Ok more) → (r : Result (List Asked) ℕ) →
        work_of rest ≡ r → onto_work a r ≡ Ok work → Ok a ∷ rest ≡ map Ok work
    go next (Ok more) g h = ap (λ t. Ok a ∷ t) (next more g) ∙ ap (map Ok) (ok_same (a ∷ more) work h)
    go next (Err k) g h = absurd (err_ok (k + 1) work h)

pub lines_work : (work : List Asked) → work_of (map Ok work) ≡ Ok work
lines_work [] = refl
lines_work (a ∷ work) = ap (onto_work a) (lines_work work)

-- ---- the tasks that are left of a client's

pub drop_at : (ts : List Task) (m : ℕ) (t : Task) → is_that (slice_get ts m) t ≡ true →
    drop m (forms ts) ≡ task_text t ∷ drop (m + 1) (forms ts)
drop_at [] m t h = absurd (false_true h)
drop_at (x ∷ xs) zero t h = ap (λ a. a ∷ forms xs) ((bytes_eq-Decides (task_text x) (task_text t)).0 h)
drop_at (x ∷ xs) (suc m) t h =
    let same : suc (m + 1) ≡ suc m + 1 = omega arith in
    drop_at xs m t h ∙ ap (λ n. task_text t ∷ drop n (forms (x ∷ xs))) same

pub at_drop : (ts : List Task) (m : ℕ) (t : Task) (rest : List (List ℕ)) → drop m (forms ts) ≡ task_text t ∷ rest →
    is_that (slice_get ts m) t ≡ true
at_drop [] zero t rest h = absurd (let e = h in cc)
at_drop [] (suc m) t rest h = absurd (let e = h in cc)
at_drop (x ∷ xs) zero t rest h = let same : task_text x ≡ task_text t = cc in
    (bytes_eq-Decides (task_text x) (task_text t)).1 same
at_drop (x ∷ xs) (suc m) t rest h = at_drop xs m t rest h

drop_tail : (ts : List (List ℕ)) (m : ℕ) (x : List ℕ) (rest : List (List ℕ)) → drop m ts ≡ x ∷ rest →
    drop (m + 1) ts ≡ rest
drop_tail [] zero x rest h = absurd (let e = h in cc)
drop_tail [] (suc m) x rest h = absurd (let e = h in cc)
drop_tail (t ∷ ts) zero x rest h = let same : ts ≡ rest = cc in same
drop_tail (t ∷ ts) (suc m) x rest h =
    let same : suc m + 1 ≡ suc (m + 1) = omega arith in
    ap (λ n. drop n (t ∷ ts)) same ∙ drop_tail ts m x rest h

-- behind the earlier calls, a client's further ones ask for the tasks that are left
abbrev pub Goes : List Asked → List Call → List Call → ℕ → List (List ℕ) → Type 0
Goes work earlier calls k left = drop (made_by k earlier) (forms (tasks_of k work)) ≡ forms (asked_by k calls) ++ left

pub none_some : (line : ℕ) → ◌≡◌ {A = Option ℕ} (Some line) None → ⊥
none_some line e = cc

-- none is foreign: each client's calls ask for its tasks
pub goes_on : (work : List Asked) (earlier calls : List Call) → first_foreign work earlier (map Ok calls) ≡ None →
    (k : ℕ) → (left : List (List ℕ)) × Goes work earlier calls k left
goes_on work earlier [] h k = (drop (made_by k earlier) (forms (tasks_of k work)), refl)
goes_on work earlier (c ∷ cs) h k = go (λ g. goes_on work (c ∷ earlier) cs g k) (is_next work earlier c) refl h
  where
    go : (first_foreign work (c ∷ earlier) (map Ok cs) ≡ None →
        (left : List (List ℕ)) × Goes work (c ∷ earlier) cs k left) → (b : Bool) → is_next work earlier c ≡ b
        → cond b (first_foreign work (c ∷ earlier) (map Ok cs)) (Some (length earlier + 1)) ≡ None →
        (left : List (List ℕ)) × Goes work earlier (c ∷ cs) k left
    go next true e g =
        let more = next g in
        elim (test c.client k) [
          | inl same ↦
              let now = subst (λ q. drop (made_by q earlier) (forms (tasks_of q work)) ≡ task_text c.op ∷ drop
              (made_by q earlier + 1) (forms (tasks_of q work))) same.1
              (drop_at (tasks_of c.client work) (made_by c.client earlier) c.op e) in
              let made : made_by k earlier + 1 ≡ made_by k (c ∷ earlier) =
              ap (λ b. cond b (made_by k earlier + 1) (made_by k earlier)) (sym same.0) in (
                more.0,
                now ∙ ap (λ t. task_text c.op ∷ t) (ap (λ n. drop n (forms (tasks_of k work))) made ∙ more.1)
                    ∙ ap (λ b. forms (cond b (c.op ∷ asked_by k cs) (asked_by k cs)) ++ more.0) (sym same.0),
              )
          | inr other ↦
              let made : made_by k earlier ≡ made_by k (c ∷ earlier) =
              ap (λ b. cond b (made_by k earlier + 1) (made_by k earlier)) (sym other.0) in (
                more.0,
                ap (λ n. drop n (forms (tasks_of k work))) made ∙ more.1 ∙
                    ap (λ b. forms (cond b (c.op ∷ asked_by k cs) (asked_by k cs)) ++ more.0) (sym other.0),
              )
        ]
    go next false e g = absurd (none_some (length earlier + 1) g)

-- and where they do, none is
pub none_foreign : (work : List Asked) (earlier calls : List Call) →
    ((k : ℕ) → (left : List (List ℕ)) × Goes work earlier calls k left) →
    first_foreign work earlier (map Ok calls) ≡ None
none_foreign work earlier [] h = refl
none_foreign work earlier (c ∷ cs) h =
    let own = h c.client in
    let itself : (c.client == c.client) ≡ true = grind (arith, nat_tests) in
    let first : drop (made_by c.client earlier) (forms (tasks_of c.client work)) ≡ task_text c.op ∷
    (forms (asked_by c.client cs) ++ own.0) =
    own.1 ∙ ap (λ b. forms (cond b (c.op ∷ asked_by c.client cs) (asked_by c.client cs)) ++ own.0) itself in
    let next = at_drop (tasks_of c.client work) (made_by c.client earlier) c.op
    (forms (asked_by c.client cs) ++ own.0) first in
    ap (λ b. cond b (first_foreign work (c ∷ earlier) (map Ok cs)) (Some (length earlier + 1))) next
    ∙ none_foreign work (c ∷ earlier) cs (λ k. ((h k).0, later k (test c.client k) (h k).0 (h k).1))
  where
    later : (k : ℕ) → Test c.client k → (left : List (List ℕ)) → Goes work earlier (c ∷ cs) k left →
        Goes work (c ∷ earlier) cs k left
    later k (inl same) left g =
        let made : made_by k (c ∷ earlier) ≡ made_by k earlier + 1 =
        ap (λ b. cond b (made_by k earlier + 1) (made_by k earlier)) same.0 in
        ap (λ n. drop n (forms (tasks_of k work))) made
        ∙ drop_tail (forms (tasks_of k work)) (made_by k earlier) (task_text c.op) (forms (asked_by k cs) ++ left)
        (g ∙ ap (λ b. forms (cond b (c.op ∷ asked_by k cs) (asked_by k cs)) ++ left) same.0)
    later k (inr other) left g =
        let made : made_by k (c ∷ earlier) ≡ made_by k earlier =
        ap (λ b. cond b (made_by k earlier + 1) (made_by k earlier)) other.0 in
        ap (λ n. drop n (forms (tasks_of k work))) made ∙ g ∙
        ap (λ b. forms (cond b (c.op ∷ asked_by k cs) (asked_by k cs)) ++ left) other.0

-- ---- tasks that are missing

-- counts of all calls
pub made_in : (k : ℕ) (earlier calls : List Call) → made_by k
    (calls_in earlier (map Ok calls)) ≡ made_by k earlier + length (asked_by k calls)
made_in k earlier [] = plain (made_by k earlier)
  where
    plain : (n : ℕ) → n ≡ n + 0
    plain n = omega arith
made_in k earlier (c ∷ cs) =
    made_in k (c ∷ earlier) cs ∙ split (c.client == k)
  where
    split : (b : Bool) → cond b (made_by k earlier + 1) (made_by k earlier) + length
        (asked_by k cs) ≡ made_by k earlier + length (cond b (c.op ∷ asked_by k cs) (asked_by k cs))
    split true = omega arith
    split false = refl

pub stopped_in : (k : ℕ) (earlier calls : List Call) → has_stopped k (calls_in earlier (map Ok calls)) ≡
    (has_stopped k earlier || has_stopped k calls)
stopped_in k earlier [] = plain (has_stopped k earlier)
  where
    plain : (b : Bool) → b ≡ (b || false)
    plain true = refl
    plain false = refl
stopped_in k earlier (c ∷ cs) = stopped_in k (c ∷ earlier) cs ∙ turn (is_last k c) (has_stopped k earlier)
    (has_stopped k cs)
  where
    turn : (a b d : Bool) → ((a || b) || d) ≡ (b || (a || d))
    turn true true d = refl
    turn true false d = refl
    turn false b d = refl

pub not_both : (a b : ℕ) (s : Bool) → s ≡ false → (nat_le a b && not s) ≡ false → b < a
not_both a b s e h = grind (arith, nat_tests)

pub closed_more : (a b : ℕ) (s : Bool) → b < a → (nat_le a b && not s) ≡ false
closed_more a b s h = grind (arith, nat_tests)

pub closed_stop : (a b : ℕ) (s : Bool) → s ≡ true → (nat_le a b && not s) ≡ false
closed_stop a b s e = ap (λ t. nat_le a b && not t) e ∙ never (nat_le a b)
  where
    never : (t : Bool) → (t && false) ≡ false
    never true = refl
    never false = refl

none_pair : (p : ℕ × ℕ) → Some p ≡ None → ⊥
none_pair p e = cc

-- where none is missing, a client whose calls were all answered made as many as it has tasks
enough : (all : List Call) (before work : List Asked) → first_missing all before work ≡ None → (k : ℕ) →
    has_stopped k all ≡ false → length (tasks_of k before) ≤ made_by k all
    → length (tasks_of k before) + length (tasks_of k work) ≤ made_by k all
enough all before [] h k s l = omega (arith, l)
enough all before (a ∷ work) h k s l = go (λ g m. enough all (a ∷ before) work g k s m)
    (is_missing all a.client (length (tasks_of a.client before))) refl h
  where
    go : (first_missing all (a ∷ before) work ≡ None → length (tasks_of k (a ∷ before)) ≤ made_by k all →
        length (tasks_of k (a ∷ before)) + length (tasks_of k work) ≤ made_by k all)
        → (b : Bool) → is_missing all a.client (length (tasks_of a.client before)) ≡ b
        → cond b (Some (a.client, length (tasks_of a.client before) + 1)) (first_missing all (a ∷ before) work) ≡ None
        → length (tasks_of k before) + length (tasks_of k (a ∷ work)) ≤ made_by k all
    go next true e g = absurd (none_pair (a.client, length (tasks_of a.client before) + 1) g)
    go next false e g =
        elim (test a.client k) [
          | inl same ↦
              let closed : is_missing all k (length (tasks_of k before)) ≡ false =
              subst (λ q. is_missing all q (length (tasks_of q before)) ≡ false) same.1 e in
              let less = not_both (made_by k all) (length (tasks_of k before)) (has_stopped k all) s closed in
              let here : length (tasks_of k (a ∷ before)) ≡ suc (length (tasks_of k before)) =
              ap (λ b. length (cond b (a.task ∷ tasks_of k before) (tasks_of k before))) same.0 in
              let there : length (tasks_of k (a ∷ work)) ≡ suc (length (tasks_of k work)) =
              ap (λ b. length (cond b (a.task ∷ tasks_of k work) (tasks_of k work))) same.0 in
              let more = next g (omega (arith, here, less)) in
              omega (arith, more, here, there)
          | inr other ↦
              let here : length (tasks_of k (a ∷ before)) ≡ length (tasks_of k before) =
              ap (λ b. length (cond b (a.task ∷ tasks_of k before) (tasks_of k before))) other.0 in
              let there : length (tasks_of k (a ∷ work)) ≡ length (tasks_of k work) =
              ap (λ b. length (cond b (a.task ∷ tasks_of k work) (tasks_of k work))) other.0 in
              let more = next g (omega (arith, here, l)) in
              omega (arith, more, here, there)
        ]

-- each client's calls suffice, or one of them was never answered
abbrev Suffices : List Call → List Asked → List Asked → ℕ → Type 0
Suffices all before work k = (has_stopped k all ≡ true) ⊎ (length (tasks_of k before) + length
    (tasks_of k work) ≤ made_by k all)

none_missing : (all : List Call) (before work : List Asked) → ((k : ℕ) → Suffices all before work k) →
    first_missing all before work ≡ None
none_missing all before [] h = refl
none_missing all before (a ∷ work) h =
    ap (λ b. cond b (Some (a.client, length (tasks_of a.client before) + 1)) (first_missing all (a ∷ before) work))
    (closed (h a.client))
    ∙ none_missing all (a ∷ before) work (λ k. later k (test a.client k) (h k))
  where
    closed : Suffices all before (a ∷ work) a.client → is_missing all a.client
        (length (tasks_of a.client before)) ≡ false
    closed (inl s) = closed_stop (made_by a.client all) (length (tasks_of a.client before)) (has_stopped a.client all) s
    closed (inr l) =
        let itself : (a.client == a.client) ≡ true = grind (arith, nat_tests) in
        let there : length (tasks_of a.client (a ∷ work)) ≡ suc (length (tasks_of a.client work)) =
        ap (λ b. length (cond b (a.task ∷ tasks_of a.client work) (tasks_of a.client work))) itself in
        closed_more (made_by a.client all) (length (tasks_of a.client before)) (has_stopped a.client all)
        (omega (arith, l, there))

    later : (k : ℕ) → Test a.client k → Suffices all before (a ∷ work) k → Suffices all (a ∷ before) work k
    later k t (inl s) = inl s
    later k (inl same) (inr l) =
        let here : length (tasks_of k (a ∷ before)) ≡ suc (length (tasks_of k before)) =
        ap (λ b. length (cond b (a.task ∷ tasks_of k before) (tasks_of k before))) same.0 in
        let there : length (tasks_of k (a ∷ work)) ≡ suc (length (tasks_of k work)) =
        ap (λ b. length (cond b (a.task ∷ tasks_of k work) (tasks_of k work))) same.0 in
        inr (omega (arith, l, here, there))
    later k (inr other) (inr l) =
        let here : length (tasks_of k (a ∷ before)) ≡ length (tasks_of k before) =
        ap (λ b. length (cond b (a.task ∷ tasks_of k before) (tasks_of k before))) other.0 in
        let there : length (tasks_of k (a ∷ work)) ≡ length (tasks_of k work) =
        ap (λ b. length (cond b (a.task ∷ tasks_of k work) (tasks_of k work))) other.0 in
        inr (omega (arith, l, here, there))

-- ---- the law

no_forms : (left : List (List ℕ)) → length left ≡ 0 → left ≡ []
no_forms [] e = refl
no_forms (x ∷ left) e = absurd (omega arith)

pub forms_size : (xs : List Task) → length (forms xs) ≡ length xs
forms_size [] = refl
forms_size (x ∷ xs) = ap suc (forms_size xs)

sizes : (xs ys : List Task) (left : List (List ℕ)) → forms xs ≡ forms ys ++ left → length xs ≡ length ys + length left
sizes xs ys left e =
    sym (forms_size xs) ∙ ap length e ∙ length-append (forms ys) left ∙ ap (λ n. n + length left) (forms_size ys)

done_of : (work : List Asked) (calls : List Call) → first_foreign work [] (map Ok calls) ≡ None →
    first_missing (calls_in [] (map Ok calls)) [] work ≡ None → (k : ℕ) → IsDoneBy k work calls
done_of work calls f m k =
    let goes = goes_on work [] calls f k in
    record {
      left = goes.0;
      done = goes.1;
      all = λ s.
          let all = calls_in [] (map Ok calls) in
          let few = enough all [] work m k (stopped_in k [] calls ∙ s) (omega arith) in
          let made : made_by k all ≡ 0 + length (asked_by k calls) = made_in k [] calls in
          let size = sizes (tasks_of k work) (asked_by k calls) goes.0 goes.1 in
          no_forms goes.0 (omega (arith, few, made, size));
    }

stops : (b : Bool) → (b ≡ true) ⊎ (b ≡ false)
stops true = inl refl
stops false = inr refl

suffices : (work : List Asked) (calls : List Call) (k : ℕ) → IsDoneBy k work calls →
    Suffices (calls_in [] (map Ok calls)) [] work k
suffices work calls k d =
    elim (stops (has_stopped k calls)) [
      | inl s ↦ inl (stopped_in k [] calls ∙ s)
      | inr s ↦
          let made : made_by k (calls_in [] (map Ok calls)) ≡ 0 + length (asked_by k calls) = made_in k [] calls in
          let size = sizes (tasks_of k work) (asked_by k calls) d.left d.done in
          let none : length d.left ≡ 0 = ap length (d.all s) in
          inr (omega (arith, made, size, none))
    ]

whole_history : LegalIsLinearization → (n : ℕ) (tasks bytes : List ℕ) →
    is_whole (workload_verdict n tasks bytes) ≡ true →
    IsWholeHistory n tasks bytes
whole_history legal n tasks bytes h = go (work_of (map line_asked (lines_of tasks))) refl h
  where
    go : (r : Result (List Asked) ℕ) → work_of (map line_asked (lines_of tasks)) ≡ r →
        is_whole (held_by n r bytes) ≡ true → IsWholeHistory n tasks bytes
    go (Err k) e g = absurd (false_true g)
    go (Ok work) e g =
        let lines = map line_call (lines_of bytes) in
        let three = joined_whole (first_foreign work [] lines) (first_missing (calls_in [] lines) [] work)
        (verdict_on n bytes) g in
        let found = (legal n bytes).0 three.2 in
        record {
          work = work;
          calls = found.calls;
          handed = work_lines (map line_asked (lines_of tasks)) work e;
          listed = found.listed;
          linearization = found.linearization;
          done = done_of work found.calls (ap (first_foreign work []) (sym found.listed) ∙ three.0)
              (ap (λ ls. first_missing (calls_in [] ls) [] work) (sym found.listed) ∙ three.1);
        }

history_whole : LegalIsLinearization → (n : ℕ) (tasks bytes : List ℕ) → IsWholeHistory n tasks bytes →
    is_whole (workload_verdict n tasks bytes) ≡ true
history_whole legal n tasks bytes h =
    let lines = map line_call (lines_of bytes) in
    let work : work_of (map line_asked (lines_of tasks)) ≡ Ok h.work = ap work_of h.handed ∙ lines_work h.work in
    let foreign : first_foreign h.work [] lines ≡ None =
    ap (first_foreign h.work []) h.listed ∙ none_foreign h.work [] h.calls (λ k. ((h.done k).left, (h.done k).done)) in
    let missing : first_missing (calls_in [] lines) [] h.work ≡ None =
    ap (λ ls. first_missing (calls_in [] ls) [] h.work) h.listed ∙ none_missing (calls_in [] (map Ok h.calls)) [] h.work
    (λ k. suffices h.work h.calls k (h.done k)) in
    let is : is_legal (verdict_on n bytes) ≡ true = (legal n bytes).1
    (record { calls = h.calls; listed = h.listed; linearization = h.linearization }) in
    ap (λ r. is_whole (held_by n r bytes)) work
    ∙ ap (λ f. is_whole (joined_verdict f (first_missing (calls_in [] lines) [] h.work) (verdict_on n bytes))) foreign
    ∙ ap (λ m. is_whole (joined_verdict None m (verdict_on n bytes))) missing ∙ is

pub legal_is_whole : LegalIsLinearization → LegalIsWhole
legal_is_whole legal = λ n tasks bytes. (whole_history legal n tasks bytes, history_whole legal n tasks bytes)
