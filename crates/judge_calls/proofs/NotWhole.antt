-- What the laws on a history that is not of the work share: what the verdict on both is, and a client's calls and its
-- tasks.
use Rattle.std.proofs.Common.{◌≡◌, ◌⊎◌, ℕ, ◌==◌, Bool, true, false, cond, List, [], ◌∷◌, ◌++◌, Option, Some, None, refl}
use Rattle.std.proofs.Common.{sym, ap, subst, ◌∙◌, inl, inr, arith}
use Rattle.std.proofs.lemmas.Bool.Decides.{nat_tests}
use Rattle.judge_calls.specs.declared.verdict.Verdict.{Verdict}
use Rattle.judge_calls.specs.declared.verdict.Verdict.TheVariants.{Legal, Fault, Illegal}
use Rattle.judge_calls.specs.declared.held.WorkloadVerdict.TheVariants.{Judged, BadTasks, Foreign, Missing}
use Rattle.judge_calls.specs.Call.{Call}
use Rattle.judge_calls.specs.Verdict.{is_legal}
use Rattle.judge_calls.specs.Work.{Asked, tasks_of, comes_first, joined_verdict}
use Rattle.judge_calls.specs.Whole.{asked_by}
use Rattle.judge_calls.proofs.Handed.{tasks_both}

-- ---- what a verdict on both is

-- it is that of the order, or names a line of another task, or a task that is missing
abbrev Cases : Option ℕ → Option (ℕ × ℕ) → Verdict → Type 0
Cases f m v =
    (joined_verdict f m v ≡ Judged v)
    ⊎ ((line : ℕ) × (f ≡ Some line) × (comes_first line v ≡ true) × (joined_verdict f m v ≡ Foreign line))
    ⊎ ((it : ℕ × ℕ) × (f ≡ None) × (m ≡ Some it) × (is_legal v ≡ true)
    × (joined_verdict f m v ≡ Missing it.0 it.1))

cases_of : (f : Option ℕ) (m : Option (ℕ × ℕ)) (v : Verdict) → Cases f m v
cases_of None None (Legal s) = inl refl
cases_of None None (Fault k e) = inl refl
cases_of None None (Illegal k w) = inl refl
cases_of None (Some it) (Legal s) = inr (inr (it, refl, refl, refl, refl))
cases_of None (Some it) (Fault k e) = inl refl
cases_of None (Some it) (Illegal k w) = inl refl
cases_of (Some line) m v = foreign (comes_first line v) refl
  where
    foreign : (b : Bool) → comes_first line v ≡ b → Cases (Some line) m v
    foreign true e = inr (inl (line, refl, e, ap (λ b. cond b (Foreign line) (Judged v)) e))
    foreign false e = inl (ap (λ b. cond b (Foreign line) (Judged v)) e)

-- where there is work, no line of it is named
pub not_bad : (f : Option ℕ) (m : Option (ℕ × ℕ)) (v : Verdict) (line : ℕ) → joined_verdict f m v ≡ BadTasks line → ⊥
not_bad f m v line h = no (cases_of f m v)
  where
    no : Cases f m v → ⊥
    no (inl e) = let bad : Judged v ≡ BadTasks line = sym e ∙ h in cc
    no (inr (inl c)) = let bad : Foreign c.0 ≡ BadTasks line = sym c.3 ∙ h in cc
    no (inr (inr c)) = let bad : Missing c.0.0 c.0.1 ≡ BadTasks line = sym c.4 ∙ h in cc

-- where a line is named, it comes first
pub is_foreign : (f : Option ℕ) (m : Option (ℕ × ℕ)) (v : Verdict) (line : ℕ) → joined_verdict f m v ≡ Foreign line
    → (f ≡ Some line) × (comes_first line v ≡ true)
is_foreign f m v line h = only (cases_of f m v)
  where
    only : Cases f m v → (f ≡ Some line) × (comes_first line v ≡ true)
    only (inl e) = absurd (let bad : Judged v ≡ Foreign line = sym e ∙ h in cc)
    only (inr (inl c)) =
        let is : Foreign c.0 ≡ Foreign line = sym c.3 ∙ h in
        let same : c.0 ≡ line = cc in
        (c.1 ∙ ap Some same, subst (λ k. comes_first k v ≡ true) same c.2)
    only (inr (inr c)) = absurd (let bad : Missing c.0.0 c.0.1 ≡ Foreign line = sym c.4 ∙ h in cc)

-- where a task is named, no line is foreign, and the history is legal
pub named_missing : (f : Option ℕ) (m : Option (ℕ × ℕ)) (v : Verdict) (client number : ℕ)
    → joined_verdict f m v ≡ Missing client number
    → (f ≡ None) × (m ≡ Some (client, number)) × (is_legal v ≡ true)
named_missing f m v client number h = only (cases_of f m v)
  where
    only : Cases f m v → (f ≡ None) × (m ≡ Some (client, number)) × (is_legal v ≡ true)
    only (inl e) = absurd (let bad : Judged v ≡ Missing client number = sym e ∙ h in cc)
    only (inr (inl c)) = absurd (let bad : Foreign c.0 ≡ Missing client number = sym c.3 ∙ h in cc)
    only (inr (inr c)) =
        let is : Missing c.0.0 c.0.1 ≡ Missing client number = sym c.4 ∙ h in
        let one : c.0.0 ≡ client = cc in
        let two : c.0.1 ≡ number = cc in
        (c.1, c.2 ∙ ap (λ a. Some (a, c.0.1)) one ∙ ap (λ b. Some (client, b)) two, c.3)

-- ---- a client's calls and its tasks

itself : (k : ℕ) → (k == k) ≡ true
itself k = grind (arith, nat_tests)

asked_both : (k : ℕ) (a b : List Call) → asked_by k (a ++ b) ≡ asked_by k a ++ asked_by k b
asked_both k [] b = refl
asked_both k (c ∷ a) b =
    let more = asked_both k a b in
    elim (c.client == k) as (λ v. cond v (c.op ∷ asked_by k (a ++ b)) (asked_by k (a ++ b))
    ≡ cond v (c.op ∷ asked_by k a) (asked_by k a) ++ asked_by k b) [
      | true ↦ ap (λ t. c.op ∷ t) more
      | false ↦ more
    ]

-- a call of a client stands among others
pub asked_split : (k : ℕ) (earlier : List Call) (c : Call) (later : List Call) → c.client ≡ k
    → asked_by k (earlier ++ c ∷ later) ≡ asked_by k earlier ++ c.op ∷ asked_by k later
asked_split k earlier c later e =
    asked_both k earlier (c ∷ later)
    ∙ ap (λ b. asked_by k earlier ++ cond b (c.op ∷ asked_by k later) (asked_by k later))
    (ap (λ x. x == k) e ∙ itself k)

-- a task stands among others
pub tasks_split : (front : List Asked) (a : Asked) (after : List Asked) → tasks_of a.client (front ++ a ∷ after)
    ≡ tasks_of a.client front ++ a.task ∷ tasks_of a.client after
tasks_split front a after =
    tasks_both a.client front (a ∷ after)
    ∙ ap (λ b. tasks_of a.client front ++ cond b (a.task ∷ tasks_of a.client after) (tasks_of a.client after))
    (itself a.client)
