-- What the tests on one thing more say of an order, and how an order goes on.
use Rattle.std.proofs.lemmas.Bool.Decides.{nat_tests}
use Rattle.std.proofs.Common.{◌≡◌, ◌⊎◌, ℕ, ◌+◌, ◌<◌, ◌≤◌, ◌||◌, suc, zero, Bool, true, false, cond, List, [], ◌∷◌, ◌++◌}
use Rattle.std.proofs.Common.{length, map, Option, Some, None, refl, sym, ap, ◌∙◌, subst, inl, inr, arith, nat_lt}
use Rattle.std.specs.List.{list_any}
use mathlib.Core.List.{reverse_aux}
use Rattle.judge_object.specs.declared.span.Span.{Span}
use Rattle.judge_object.specs.declared.span.Misplaced.{Misplaced}
use Rattle.judge_object.specs.declared.span.Misplaced.TheVariants.{Client, Time}
use Rattle.judge_object.specs.Order.{itself, same_client, overlaps, ended_before, breaks_client, breaks_time, misplaced}
use Rattle.judge_object.specs.Order.{clients_of}
use Rattle.judge_object.specs.Laws.{IsAt, KeepPrecedence, TakeTurns, IsMisplaced}
use Rattle.judge_object.proofs.Tests.{both_false, false_both, turn_from, turn_test, time_from, time_test, before_of}

false_true : false ≡ true → ⊥
false_true e = cc

-- a test that does not fail passes
pub passes : (b : Bool) → (b ≡ false → ⊥) → b ≡ true
passes true h = refl
passes false h = absurd (h refl)

pub fails : (b : Bool) → (b ≡ true → ⊥) → b ≡ false
fails true h = absurd (h refl)
fails false h = refl

module _ {C : Type 0} where
  none_some : (c : C) → None ≡ Some c → ⊥
  none_some c e = cc

  some_same : (a b : C) → Some a ≡ Some b → a ≡ b
  some_same a b e = cc

  pub at_front : (cs ds : List C) (i : ℕ) (a : C) → IsAt cs i a → IsAt (cs ++ ds) i a
  at_front [] ds i a e = absurd (none_some a e)
  at_front (c ∷ cs) ds zero a e = e
  at_front (c ∷ cs) ds (suc i) a e = at_front cs ds i a e

  pub at_last : (cs : List C) (c : C) → IsAt (cs ++ c ∷ []) (length cs) c
  at_last [] c = refl
  at_last (d ∷ cs) c = at_last cs c

  at_inside : (cs : List C) (i : ℕ) (a : C) → IsAt cs i a → i < length cs
  at_inside [] i a e = absurd (none_some a e)
  at_inside (c ∷ cs) zero a e = omega arith
  at_inside (c ∷ cs) (suc i) a e = let h = at_inside cs i a e in omega (arith, h)

  -- it is one of them, or the last
  pub at_either : (cs : List C) (c : C) (i : ℕ) (a : C) → IsAt (cs ++ c ∷ []) i a →
      IsAt cs i a ⊎ ((i ≡ length cs) × (c ≡ a))
  at_either [] c zero a e = inr (refl, some_same c a e)
  at_either [] c (suc i) a e = absurd (none_some a e)
  at_either (d ∷ cs) c zero a e = inl e
  at_either (d ∷ cs) c (suc i) a e = grind (arith, nat_tests, at_either cs c i a e)

  none_back : (p : C → Bool) (xs ys : List C) → list_any p xs ≡ false → list_any p ys ≡ false →
      list_any p (reverse_aux xs ys) ≡ false
  none_back p [] ys h g = g
  none_back p (x ∷ xs) ys h g = grind (
    arith,
    nat_tests,
    both_false (p x) (list_any p xs) h,
    none_back p xs (x ∷ ys),
    false_both (p x) (list_any p ys),
  )

  none_front : (p : C → Bool) (xs ys : List C) → list_any p (reverse_aux xs ys) ≡ false →
      (list_any p xs ≡ false) × (list_any p ys ≡ false)
  none_front p [] ys h = (refl, h)
  none_front p (x ∷ xs) ys h = grind (
    arith,
    nat_tests,
    none_front p xs (x ∷ ys) h,
    both_false (p x) (list_any p ys),
    false_both (p x) (list_any p xs),
  )

  none_at : (p : C → Bool) (cs : List C) (i : ℕ) (a : C) → list_any p cs ≡ false → IsAt cs i a → p a ≡ false
  none_at p [] i a h e = absurd (none_some a e)
  none_at p (c ∷ cs) zero a h e = subst (λ d. p d ≡ false) (some_same c a e) (both_false (p c) (list_any p cs) h).0
  none_at p (c ∷ cs) (suc i) a h e = none_at p cs i a (both_false (p c) (list_any p cs) h).1 e

  none_from : (p : C → Bool) (cs : List C) → ((i : ℕ) (a : C) → IsAt cs i a → p a ≡ false) → list_any p cs ≡ false
  none_from p [] h = refl
  none_from p (c ∷ cs) h = false_both (p c) (list_any p cs) (h 0 c refl) (none_from p cs (λ i a e. h (suc i) a e))

module _ {C : Type 0} (span : C → Span) where
  pub turns_of : (cs : List C) (c : C) → TakeTurns span cs → breaks_client span (reverse_aux cs []) c ≡ false →
      TakeTurns span (cs ++ c ∷ [])
  turns_of cs c t h =
      let both = both_false (nat_lt (span c).end (span c).begin) (list_any (overlaps span c) (reverse_aux cs [])) h in
      let own = time_from (span c).end (span c).begin both.0 in
      let none = (none_front (overlaps span c) cs [] both.1).0 in
      record {
        times = λ i a e. elim (at_either cs c i a e) [
          | inl h ↦ t.times i a h
          | inr h ↦ subst (λ (d : C). (span d).begin ≤ (span d).end) h.1 own
        ];
        clients = λ i j a b e f l same. elim (at_either cs c j b f) [
          | inl g ↦ elim (at_either cs c i a e) [
            | inl h ↦ t.clients i j a b h g l same
            | inr h ↦ let inside = at_inside cs j b g in absurd (omega (arith, inside, l, h.0))
          ]
          | inr g ↦ elim (at_either cs c i a e) [
            | inl h ↦
                let test : overlaps span c a ≡ false = none_at (overlaps span c) cs i a none h in
                let turn : (span a).end ≤ (span c).begin = turn_from (span a).client (span c).client (span c).begin
                (span a).end test (same ∙ ap (λ (d : C). (span d).client) (sym g.1)) in
                subst (λ (d : C). (span a).end ≤ (span d).begin) g.1 turn
            | inr h ↦ absurd (omega (arith, l, h.0, g.0))
          ]
        ];
      }

  pub of_turns : (cs : List C) (c : C) → TakeTurns span (cs ++ c ∷ []) →
      breaks_client span (reverse_aux cs []) c ≡ false
  of_turns cs c t = grind (
    arith,
    nat_tests,
    t.times (length cs) c (at_last cs c),
    at_last cs c,
    none_from,
    turn_test,
    at_front cs (c ∷ []),
    at_inside cs,
    false_both,
    time_test,
    none_back,
  )

  pub precedence_of : (cs : List C) (c : C) → TakeTurns span (cs ++ c ∷ []) → KeepPrecedence span cs →
      breaks_time span (reverse_aux cs []) c ≡ false → KeepPrecedence span (cs ++ c ∷ [])
  precedence_of cs c t k h i j a b e f less =
      let own : (span c).begin ≤ (span c).end = t.times (length cs) c (at_last cs c) in
      let none = (none_front (ended_before span c) cs [] h).0 in
      elim (at_either cs c i a e) [
        | inl g ↦ elim (at_either cs c j b f) [
          | inl x ↦ k i j a b g x less
          | inr x ↦ let inside = at_inside cs i a g in omega (arith, inside, x.0)
        ]
        | inr g ↦ elim (at_either cs c j b f) [
          | inl x ↦
              let after : (span b).begin ≤ (span c).end = time_from (span c).end (span b).begin
              (none_at (ended_before span c) cs j b none x) in
              let same : (span c).end ≡ (span a).end = ap (λ (d : C). (span d).end) g.1 in
              absurd (omega (arith, after, same, less))
          | inr x ↦
              let first : (span c).end ≡ (span a).end = ap (λ (d : C). (span d).end) g.1 in
              let last : (span c).begin ≡ (span b).begin = ap (λ (d : C). (span d).begin) x.1 in
              absurd (omega (arith, own, first, last, less))
        ]
      ]

  pub of_precedence : (cs : List C) (c : C) → KeepPrecedence span (cs ++ c ∷ []) →
      breaks_time span (reverse_aux cs []) c ≡ false
  of_precedence cs c k = grind (
    arith,
    nat_tests,
    none_back,
    none_from,
    fails,
    before_of,
    at_last cs c,
    at_front cs (c ∷ []),
    at_inside cs,
  )

  -- what the tests say where this is wrong
  abbrev Tests : Bool → Bool → Misplaced → Type 0
  Tests client time Client = client ≡ true
  Tests client time Time = (client ≡ false) × (time ≡ true)

  same_wrong : (x y : Misplaced) → Some x ≡ Some y → x ≡ y
  same_wrong x y e = cc

  no_wrong : (x : Misplaced) → None ≡ Some x → ⊥
  no_wrong x e = cc

  some_wrong : (x : Misplaced) → Some x ≡ None → ⊥
  some_wrong x e = cc

  -- the order of the tests
  abbrev found : Bool → Bool → Option Misplaced
  found client time = cond client (Some Client) (cond time (Some Time) None)

  tests_of : (client time : Bool) (m : Misplaced) → found client time ≡ Some m → Tests client time m
  tests_of true time m h = subst (Tests true time) (same_wrong Client m h) refl
  tests_of false true m h = subst (Tests false true) (same_wrong Time m h) (refl, refl)
  tests_of false false m h = absurd (no_wrong m h)

  of_tests : (client time : Bool) (m : Misplaced) → Tests client time m → found client time ≡ Some m
  of_tests client time Client h = ap (λ b. found b time) h
  of_tests client time Time h = ap (λ b. found b time) h.0 ∙ ap (λ b. found false b) h.1

  pub none_found : (client time : Bool) → found client time ≡ None → (client ≡ false) × (time ≡ false)
  none_found true time h = absurd (some_wrong Client h)
  none_found false true h = absurd (some_wrong Time h)
  none_found false false h = (refl, refl)

  -- the first of such things are in order
  pub front_turns : (xs ys : List C) → TakeTurns span (xs ++ ys) → TakeTurns span xs
  front_turns xs ys t = grind (arith, nat_tests, at_front xs ys)

  pub front_precedence : (xs ys : List C) → KeepPrecedence span (xs ++ ys) → KeepPrecedence span xs
  front_precedence xs ys k i j a b e f l = k i j a b (at_front xs ys i a e) (at_front xs ys j b f) l

  -- none stand in order
  pub turns_none : TakeTurns span []
  turns_none = record {
    times = λ i a e. absurd (none_some a e);
    clients = λ i j a b e f l. absurd (none_some a e);
  }

  pub precedence_none : KeepPrecedence span []
  precedence_none i j a b e f l = absurd (none_some a e)

  -- one more that is well placed is in order too
  pub goes_on : (xs : List C) (x : C) → TakeTurns span xs → KeepPrecedence span xs →
      misplaced span (reverse_aux xs []) x ≡ None
      → TakeTurns span (xs ++ x ∷ []) × KeepPrecedence span (xs ++ x ∷ [])
  goes_on xs x t k h =
      let tests = none_found (breaks_client span (reverse_aux xs []) x) (breaks_time span (reverse_aux xs []) x) h in
      let turns = turns_of xs x t tests.0 in
      (turns, precedence_of xs x turns k tests.1)

  -- the last of an order is well placed
  pub last_placed : (xs : List C) (x : C) → TakeTurns span (xs ++ x ∷ []) → KeepPrecedence span (xs ++ x ∷ []) →
      misplaced span (reverse_aux xs []) x ≡ None
  last_placed xs x t k = ap (λ b. found b (breaks_time span (reverse_aux xs []) x)) (of_turns xs x t) ∙
      ap (λ b. found false b) (of_precedence xs x k)

  -- what is found is why the order does not go on
  pub cause_of : (xs : List C) (x : C) (m : Misplaced) → TakeTurns span xs →
      misplaced span (reverse_aux xs []) x ≡ Some m → IsMisplaced span xs x m
  cause_of xs x m t h = of m (tests_of (breaks_client span (reverse_aux xs []) x)
      (breaks_time span (reverse_aux xs []) x) m h)
    where
      of : (m : Misplaced) → Tests (breaks_client span (reverse_aux xs []) x) (breaks_time span (reverse_aux xs []) x) m
          → IsMisplaced span xs x m
      of Client h = λ more. false_true (sym (of_turns xs x more) ∙ h)
      of Time h = (turns_of xs x t h.0, λ more. false_true (sym (of_precedence xs x more) ∙ h.1))

  pub of_cause : (xs : List C) (x : C) (m : Misplaced) → TakeTurns span xs → KeepPrecedence span xs →
      IsMisplaced span xs x m → misplaced span (reverse_aux xs []) x ≡ Some m
  of_cause xs x Client t k h = of_tests (breaks_client span (reverse_aux xs []) x)
      (breaks_time span (reverse_aux xs []) x) Client
      (passes (breaks_client span (reverse_aux xs []) x) (λ e. h (turns_of xs x t e)))
  of_cause xs x Time t k h = grind (arith, nat_tests, of_tests, of_turns xs x h.0, passes, precedence_of xs x h.0 k)

  -- tests on things are tests on their spans
  any_mapped : (p : Span → Bool) (xs : List C) → list_any p (map span xs) ≡ list_any (λ x. p (span x)) xs
  any_mapped p [] = refl
  any_mapped p (x ∷ xs) = ap (λ b. p (span x) || b) (any_mapped p xs)

  pub misplaced_mapped : (earlier : List C) (x : C) → misplaced itself (map span earlier)
      (span x) ≡ misplaced span earlier x
  misplaced_mapped earlier x = grind (arith, nat_tests, any_mapped)

  pub clients_mapped : (xs : List C) → clients_of itself (map span xs) ≡ clients_of span xs
  clients_mapped [] = refl
  clients_mapped (x ∷ xs) = grind (arith, nat_tests, any_mapped, clients_mapped xs)
