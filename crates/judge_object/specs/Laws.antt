-- Conditions on the spans of things in an order.
use Rattle.std.specs.Prelude.{◌≡◌, ℕ, ◌<◌, ◌≤◌, Some, List, [], ◌∷◌, ◌++◌, slice_get}
use Rattle.judge_object.specs.declared.span.Span.{Span}
use Rattle.judge_object.specs.declared.span.Misplaced.{Misplaced}
use Rattle.judge_object.specs.declared.span.Misplaced.TheVariants.{Client, Time}

-- this is at a place of the order
abbrev pub IsAt : {C : Type 0} → List C → ℕ → C → Type 0
IsAt xs place x = slice_get xs place ≡ Some x

-- none ends before it begins
abbrev pub TakeTime : {C : Type 0} → (C → Span) → List C → Type 0
TakeTime {C} span xs = (i : ℕ) (a : C) → IsAt xs i a → (span a).begin ≤ (span a).end

-- those of each client do not overlap, and are in their order
abbrev pub AreSequential : {C : Type 0} → (C → Span) → List C → Type 0
AreSequential {C} span xs = (i j : ℕ) (a b : C) → IsAt xs i a → IsAt xs j b → i < j →
    (span a).client ≡ (span b).client → (span a).end ≤ (span b).begin

-- one that had ended before another began comes before it
abbrev pub KeepPrecedence : {C : Type 0} → (C → Span) → List C → Type 0
KeepPrecedence {C} span xs = (i j : ℕ) (a b : C) → IsAt xs i a → IsAt xs j b →
    (span a).end < (span b).begin → i < j

-- none ends before it begins, and those of each client are in turn
pub record TakeTurns {C : Type 0} (span : C → Span) (xs : List C) : Type 0 where
  pub times : TakeTime span xs
  pub clients : AreSequential span xs

-- why no order goes on with x after things in order: clients come first, then times
abbrev pub IsMisplaced : {C : Type 0} → (C → Span) → List C → C → Misplaced → Type 0
IsMisplaced span xs x Client = TakeTurns span (xs ++ x ∷ []) → ⊥
IsMisplaced span xs x Time =
    TakeTurns span (xs ++ x ∷ []) × (KeepPrecedence span (xs ++ x ∷ []) → ⊥)
