-- A verdict is legal exactly where the calls' order is a linearization.
use Rattle.std.proofs.Common.{◌≡◌, ℕ, ◌+◌, ◌<◌, ◌≤◌, suc, zero, true, false, List, [], ◌∷◌, length, map, Option, Some}
use Rattle.std.proofs.Common.{None, Result, Ok, Err, refl, sym, ap, ◌∙◌, subst, inl, inr, arith}
use Rattle.std.specs.Prelude.{⊤, slice_get}
use mathlib.Core.List.{reverse_aux}
use Rattle.std.proofs.lemmas.Bool.{cases_lt}
use Rattle.vac_model.specs.State.{State, empty_state}
use Rattle.vac_model.specs.Run.{run}
use Rattle.vac_lines.specs.Lines.{lines_of}
use Rattle.judge_calls.specs.declared.fault.CallFault.{CallFault}
use Rattle.judge_calls.specs.declared.verdict.CallViolation.{CallViolation}
use Rattle.judge_calls.specs.declared.verdict.Verdict.{Verdict}
use Rattle.judge_calls.specs.declared.verdict.Verdict.TheVariants.{Legal}
use Rattle.judge_calls.specs.Call.{Call, line_call}
use Rattle.judge_calls.specs.Order.{wrong_of}
use Rattle.judge_calls.specs.Verdict.{judged, unless_wrong, summary_of, is_legal, verdict_on}
use Rattle.judge_object.specs.Linear.{IsCallAt, CallsTakeTime, CallsAreSequential, CallsKeepPrecedence}
use Rattle.judge_calls.specs.Laws.{GiveReplies}
use Rattle.judge_calls.specs.Laws.{IsLinearization}
use Rattle.judge_calls.specs.Laws.{IsLegalHistory, LegalIsLinearization, state_after, LegalSummary}
use Rattle.judge_calls.proofs.Order.{Each, FitsBefore, IsRight, right_of, wrong_none}

-- each call is right behind those before it
abbrev pub AllRight : State → List Call → List Call → Type 0
AllRight s earlier [] = ⊤
AllRight s earlier (c ∷ cs) = IsRight s earlier c × AllRight (run s c.op).0 (c ∷ earlier) cs

-- each call takes time and fits in front of those behind it
abbrev pub Pairwise : List Call → Type 0
Pairwise [] = ⊤
Pairwise (c ∷ cs) = (c.begin ≤ c.end) × Each (FitsBefore c) cs × Pairwise cs

-- these are the calls of lines, and they are right
abbrev CallsOf : State → List Call → List (Result Call CallFault) → Type 0
CallsOf s earlier lines = (calls : List Call) × (lines ≡ map Ok calls) × AllRight s earlier calls

false_true : false ≡ true → ⊥
false_true e = cc

unless_legal : (w : Option CallViolation) (line : ℕ) (rest : Verdict) → is_legal (unless_wrong w line rest) ≡ true →
    (w ≡ None) × (is_legal rest ≡ true)
unless_legal None line rest h = (refl, h)
unless_legal (Some w) line rest h = absurd (false_true h)

legal_calls : (s : State) (earlier : List Call) (lines : List (Result Call CallFault)) →
    is_legal (judged s earlier lines) ≡ true → CallsOf s earlier lines
legal_calls s earlier [] h = ([], refl, tt)
legal_calls s earlier (Err fault ∷ rest) h = absurd (false_true h)
legal_calls s earlier (Ok c ∷ rest) h =
    let both = unless_legal (wrong_of s earlier c) (length earlier + 1)
    (judged (run s c.op).0 (c ∷ earlier) rest) h in
    let more = legal_calls (run s c.op).0 (c ∷ earlier) rest both.1 in
    (c ∷ more.0, ap (λ t. Ok c ∷ t) more.1, (right_of s earlier c both.0, more.2))

-- calls that are right have this verdict
calls_legal : (s : State) (earlier calls : List Call) → AllRight s earlier calls →
    judged s earlier (map Ok calls) ≡ Legal (summary_of (state_after s calls) (reverse_aux calls earlier))
calls_legal s earlier [] h = refl
calls_legal s earlier (c ∷ cs) h =
    ap (λ w. unless_wrong w (length earlier + 1) (judged (run s c.op).0 (c ∷ earlier) (map Ok cs)))
    (wrong_none s earlier c h.0)
    ∙ calls_legal (run s c.op).0 (c ∷ earlier) cs h.1

each_both : {X : Type 0} (P Q : X → Type 0) (xs : List X) → Each P xs → Each Q xs → Each (λ x. P x × Q x) xs
each_both P Q [] p q = tt
each_both P Q (x ∷ xs) p q = ((p.0, q.0), each_both P Q xs p.1 q.1)

each_left : {X : Type 0} (P Q : X → Type 0) (xs : List X) → Each (λ x. P x × Q x) xs → Each P xs
each_left P Q [] h = tt
each_left P Q (x ∷ xs) h = (h.0.0, each_left P Q xs h.1)

each_right : {X : Type 0} (P Q : X → Type 0) (xs : List X) → Each (λ x. P x × Q x) xs → Each Q xs
each_right P Q [] h = tt
each_right P Q (x ∷ xs) h = (h.0.1, each_right P Q xs h.1)

each_top : {X : Type 0} (xs : List X) → Each (λ (x : X). ⊤) xs
each_top [] = tt
each_top (x ∷ xs) = (tt, each_top xs)

-- each of these calls fits behind each of the earlier ones
abbrev AllBehind : List Call → List Call → Type 0
AllBehind earlier calls = Each (λ c. Each (λ e. FitsBefore e c) earlier) calls

replies_of : (s : State) (earlier calls : List Call) → AllRight s earlier calls → GiveReplies s calls
replies_of s earlier [] h = tt
replies_of s earlier (c ∷ cs) h = (h.0.reply, replies_of (run s c.op).0 (c ∷ earlier) cs h.1)

behind_of : (s : State) (earlier calls : List Call) → AllRight s earlier calls → AllBehind earlier calls
behind_of s earlier [] h = tt
behind_of s earlier (c ∷ cs) h = (
  h.0.fits,
  each_right (FitsBefore c) (λ d. Each (λ e. FitsBefore e d) earlier) cs
      (behind_of (run s c.op).0 (c ∷ earlier) cs h.1),
)

pairwise_of : (s : State) (earlier calls : List Call) → AllRight s earlier calls → Pairwise calls
pairwise_of s earlier [] h = tt
pairwise_of s earlier (c ∷ cs) h = (
  h.0.own,
  each_left (FitsBefore c) (λ d. Each (λ e. FitsBefore e d) earlier) cs
      (behind_of (run s c.op).0 (c ∷ earlier) cs h.1),
  pairwise_of (run s c.op).0 (c ∷ earlier) cs h.1,
)

right_all : (s : State) (earlier calls : List Call) → GiveReplies s calls → AllBehind earlier calls → Pairwise calls →
    AllRight s earlier calls
right_all s earlier [] g b p = tt
right_all s earlier (c ∷ cs) g b p = (
  record { own = p.0; fits = b.0; reply = g.0 },
  right_all (run s c.op).0 (c ∷ earlier) cs g.1 (each_both (FitsBefore c)
      (λ d. Each (λ e. FitsBefore e d) earlier) cs p.1 b.1) p.2,
)

none_some : (c : Call) → None ≡ Some c → ⊥
none_some c e = cc

some_same : (a b : Call) → Some a ≡ Some b → a ≡ b
some_same a b e = cc

each_at : (P : Call → Type 0) (cs : List Call) (i : ℕ) (a : Call) → Each P cs → IsCallAt cs i a → P a
each_at P [] i a h e = absurd (none_some a e)
each_at P (c ∷ cs) zero a h e = subst P (some_same c a e) h.0
each_at P (c ∷ cs) (suc i) a h e = each_at P cs i a h.1 e

each_from : (P : Call → Type 0) (cs : List Call) → ((i : ℕ) (a : Call) → IsCallAt cs i a → P a) → Each P cs
each_from P [] h = tt
each_from P (c ∷ cs) h = (h 0 c refl, each_from P cs (λ i a e. h (suc i) a e))

pub times_of : (cs : List Call) → Pairwise cs → CallsTakeTime cs
times_of [] p i a e = absurd (none_some a e)
times_of (c ∷ cs) p zero a e = subst (λ d. d.begin ≤ d.end) (some_same c a e) p.0
times_of (c ∷ cs) p (suc i) a e = times_of cs p.2 i a e

pub pair_of : (cs : List Call) → Pairwise cs → (i j : ℕ) (a b : Call) → IsCallAt cs i a → IsCallAt cs j b → i < j →
    FitsBefore a b
pair_of [] p i j a b e f l = absurd (none_some a e)
pair_of (c ∷ cs) p i zero a b e f l = absurd (omega arith)
pair_of (c ∷ cs) p zero (suc j) a b e f l = subst (λ d. FitsBefore d b) (some_same c a e)
    (each_at (FitsBefore c) cs j b p.1 f)
pair_of (c ∷ cs) p (suc i) (suc j) a b e f l = pair_of cs p.2 i j a b e f (omega arith)

pub precedence_of : (cs : List Call) → Pairwise cs → CallsKeepPrecedence cs
precedence_of cs p i j a b e f l =
    elim (cases_lt i j) [
      | inl h ↦ h
      | inr h ↦ elim (cases_lt j i) [
        | inl g ↦ let back = (pair_of cs p j i b a f e g).time in absurd (omega arith)
        | inr g ↦
            let same : i ≡ j = omega arith in
            let one : a ≡ b = some_same a b (sym e ∙ ap (slice_get cs) same ∙ f) in
            let own = times_of cs p j b f in
            let began : a.end ≡ b.end = ap (λ (d : Call). d.end) one in
            absurd (omega arith)
      ]
    ]

not_before : (cs : List Call) → CallsKeepPrecedence cs → (i j : ℕ) (a b : Call) → IsCallAt cs i a → IsCallAt cs j b →
    i < j →
    a.begin ≤ b.end
not_before cs k i j a b e f l =
    elim (cases_lt b.end a.begin) [
      | inl h ↦ let back = k j i b a f e h in absurd (omega arith)
      | inr h ↦ h
    ]

pub pairwise_from : (cs : List Call) → CallsTakeTime cs → CallsAreSequential cs → CallsKeepPrecedence cs → Pairwise cs
pairwise_from [] t s k = tt
pairwise_from (c ∷ cs) t s k = (
  t 0 c refl,
  each_from (FitsBefore c) cs (λ j b f. record {
    turn = s 0 (suc j) c b refl f (omega arith);
    time = not_before (c ∷ cs) k 0 (suc j) c b refl f (omega arith);
  }),
  pairwise_from cs (λ i a e. t (suc i) a e) (λ i j a b e f l. s (suc i) (suc j) a b e f (omega arith))
      (λ i j a b e f l. let far : suc i < suc j = k (suc i) (suc j) a b e f l in omega arith),
)

pub linearized : (n : ℕ) (calls : List Call) → AllRight (empty_state n) [] calls → IsLinearization n calls
linearized n calls h =
    let p = pairwise_of (empty_state n) [] calls h in
    record {
      replies = replies_of (empty_state n) [] calls h;
      times = times_of calls p;
      clients = λ i j a b e f l. (pair_of calls p i j a b e f l).turn;
      precedence = precedence_of calls p;
    }

pub right_from : (n : ℕ) (calls : List Call) → IsLinearization n calls → AllRight (empty_state n) [] calls
right_from n calls h = right_all (empty_state n) [] calls h.replies (each_top calls)
    (pairwise_from calls h.times h.clients h.precedence)

legal_history : (n : ℕ) (bytes : List ℕ) → is_legal (verdict_on n bytes) ≡ true → IsLegalHistory n bytes
legal_history n bytes h =
    let found = legal_calls (empty_state n) [] (map line_call (lines_of bytes)) h in
    record { calls = found.0; listed = found.1; linearization = linearized n found.0 found.2 }

pub legal_summary : LegalSummary
legal_summary n bytes calls listed h =
    ap (judged (empty_state n) []) listed ∙ calls_legal (empty_state n) [] calls (right_from n calls h)

history_legal : (n : ℕ) (bytes : List ℕ) → IsLegalHistory n bytes → is_legal (verdict_on n bytes) ≡ true
history_legal n bytes h = ap is_legal (legal_summary n bytes h.calls h.listed h.linearization)

pub legal_is_linearization : LegalIsLinearization
legal_is_linearization n bytes = (legal_history n bytes, history_legal n bytes)
