-- What is said of the places of calls, as facts of each call and those behind it.
use Rattle.std.proofs.Common.{◌≡◌, ℕ, ◌<◌, ◌≤◌, suc, zero, List, [], ◌∷◌, Some, None, refl, sym, ap, ◌∙◌, subst, inl}
use Rattle.std.proofs.Common.{inr, arith}
use Rattle.std.specs.Prelude.{⊤, slice_get}
use Rattle.std.proofs.lemmas.Bool.{cases_lt}
use Rattle.judge_object.specs.Call.{Call}
use Rattle.judge_object.specs.Call.{IsBehind}
use Rattle.judge_object.specs.Linear.{IsCallAt, CallsTakeTime, CallsAreSequential, CallsKeepPrecedence}
use Rattle.judge_search.proofs.Each.{Each}
use Rattle.judge_search.proofs.Clients.{InTurn}

module _ {O : Type 0} where
  -- each call began before those behind it ended
  abbrev pub Precedes : List (Call O) → Type 0
  Precedes [] = ⊤
  Precedes (c ∷ cs) = Each (λ d. c.begin ≤ d.end) cs × Precedes cs

  none_some : (c : Call O) → None ≡ Some c → ⊥
  none_some c e = cc

  some_same : (a b : Call O) → Some a ≡ Some b → a ≡ b
  some_same a b e = cc

  each_at : (P : (Call O) → Type 0) (cs : List (Call O)) (i : ℕ) (a : Call O) → Each P cs → IsCallAt cs i a → P a
  each_at P [] i a h e = absurd (none_some a e)
  each_at P (c ∷ cs) zero a h e = subst P (some_same c a e) h.0
  each_at P (c ∷ cs) (suc i) a h e = each_at P cs i a h.1 e

  each_from : (P : (Call O) → Type 0) (cs : List (Call O)) → ((i : ℕ) (a : Call O) → IsCallAt cs i a → P a) → Each P cs
  each_from P [] h = tt
  each_from P (c ∷ cs) h = (h 0 c refl, each_from P cs (λ i a e. h (suc i) a e))

  pub times_of : (cs : List (Call O)) → InTurn cs → CallsTakeTime cs
  times_of [] h i a e = absurd (none_some a e)
  times_of (c ∷ cs) h zero a e = subst (λ d. d.begin ≤ d.end) (some_same c a e) h.0
  times_of (c ∷ cs) h (suc i) a e = times_of cs h.2 i a e

  pub turns_of : (cs : List (Call O)) → InTurn cs → CallsAreSequential cs
  turns_of [] h i j a b e f l = absurd (none_some a e)
  turns_of (c ∷ cs) h i zero a b e f l = absurd (omega arith)
  turns_of (c ∷ cs) h zero (suc j) a b e f l = subst (λ d. IsBehind b d) (some_same c a e)
      (each_at (λ d. IsBehind d c) cs j b h.1 f)
  turns_of (c ∷ cs) h (suc i) (suc j) a b e f l = turns_of cs h.2 i j a b e f (omega arith)

  began_before : (cs : List (Call O)) → Precedes cs → (i j : ℕ) (a b : Call O) → IsCallAt cs i a → IsCallAt cs j b →
      i < j →
      a.begin ≤ b.end
  began_before [] h i j a b e f l = absurd (none_some a e)
  began_before (c ∷ cs) h i zero a b e f l = absurd (omega arith)
  began_before (c ∷ cs) h zero (suc j) a b e f l = subst (λ d. d.begin ≤ b.end) (some_same c a e)
      (each_at (λ d. c.begin ≤ d.end) cs j b h.0 f)
  began_before (c ∷ cs) h (suc i) (suc j) a b e f l = began_before cs h.1 i j a b e f (omega arith)

  pub precedence_of : (cs : List (Call O)) → InTurn cs → Precedes cs → CallsKeepPrecedence cs
  precedence_of cs t p i j a b e f l =
      elim (cases_lt i j) [
        | inl h ↦ h
        | inr h ↦ elim (cases_lt j i) [
          | inl g ↦ let back = began_before cs p j i b a f e g in absurd (omega arith)
          | inr g ↦
              let same : i ≡ j = omega arith in
              let one : a ≡ b = some_same a b (sym e ∙ ap (slice_get cs) same ∙ f) in
              let own = times_of cs t j b f in
              let ended : a.end ≡ b.end = ap (λ (d : Call O). d.end) one in
              absurd (omega arith)
        ]
      ]

  pub in_turn_from : (cs : List (Call O)) → CallsTakeTime cs → CallsAreSequential cs → InTurn cs
  in_turn_from [] t s = tt
  in_turn_from (c ∷ cs) t s = (
    t 0 c refl,
    each_from (λ d. IsBehind d c) cs (λ j b f. s 0 (suc j) c b refl f (omega arith)),
    in_turn_from cs (λ i a e. t (suc i) a e) (λ i j a b e f l. s (suc i) (suc j) a b e f (omega arith)),
  )

  not_before : (cs : List (Call O)) → CallsKeepPrecedence cs → (i j : ℕ) (a b : Call O) → IsCallAt cs i a →
      IsCallAt cs j b →
      i < j →
      a.begin ≤ b.end
  not_before cs k i j a b e f l =
      elim (cases_lt b.end a.begin) [
        | inl h ↦ let back = k j i b a f e h in absurd (omega arith)
        | inr h ↦ h
      ]

  pub precedes_from : (cs : List (Call O)) → CallsKeepPrecedence cs → Precedes cs
  precedes_from [] k = tt
  precedes_from (c ∷ cs) k = (
    each_from (λ d. c.begin ≤ d.end) cs (λ j b f. not_before (c ∷ cs) k 0 (suc j) c b refl f (omega arith)),
    precedes_from cs (λ i j a b e f l. let far : suc i < suc j = k (suc i) (suc j) a b e f l in omega arith),
  )
