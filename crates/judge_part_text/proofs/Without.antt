-- The first call without a part.
use Rattle.std.proofs.Common.{◌≡◌, ◌≤◌, ◌+◌, ◌&&◌, ◌∙◌, ℕ, Bool, true, false, cond, not, List, [], ◌∷◌, length, map}
use Rattle.std.proofs.Common.{Some}
use Rattle.std.proofs.Common.{None, refl, ap, ap₂, arith, nat_lt}
use Rattle.std.specs.List.{list_all, position, position_or_len}
use Rattle.std.proofs.lemmas.Bool.Decides.{nat_tests}
use Rattle.std.proofs.lemmas.List.{length-map}
use Rattle.vac_model.specs.declared.tasks.Task.{Task}
use Rattle.vac_model.specs.State.{Place}
use Rattle.judge_object.specs.declared.line.Line.{Line}
use Rattle.judge_reservations.specs.declared.scope.Scope.{Scope}
use Rattle.judge_reservations.specs.Scopes.{IsOpen}
use Rattle.judge_reservations.specs.Largest.{HasNoScope}
use Rattle.judge_reservations.specs.Lines.{call_of, calls_of, has_part}
use Rattle.judge_part_text.specs.Parting.{IsFirstWithout}

-- ---- positions

some_none : (n : ℕ) → Some n ≡ None → ⊥
some_none n e = cc

none_lt : (b : Bool) (n : ℕ) → cond b (Some n) None ≡ None → b ≡ false
none_lt true n e = absurd (some_none n e)
none_lt false n e = refl

module _ {X : Type 0} where
  all_front : (p : X → Bool) (xs : List X) → length xs ≤ position_or_len (λ x. not (p x)) xs → list_all p xs ≡ true
  all_front p [] h = refl
  all_front p (x ∷ xs) h = go (p x) h (all_front p xs)
    where
      go : (b : Bool) → length (x ∷ xs) ≤ cond (not (not b)) (1 + position_or_len (λ x. not (p x)) xs) 0 →
          (length xs ≤ position_or_len (λ x. not (p x)) xs → list_all p xs ≡ true) → (b && list_all p xs) ≡ true
      go true h more = more (omega arith)
      go false h more = absurd (omega arith)

  pub all_pass : (p : X → Bool) (xs : List X) → position (λ x. not (p x)) xs ≡ None → list_all p xs ≡ true
  all_pass p xs e =
      let t = none_lt (nat_lt (position_or_len (λ x. not (p x)) xs) (length xs))
      (position_or_len (λ x. not (p x)) xs) e in
      all_front p xs (let l : length xs ≤ position_or_len (λ x. not (p x)) xs = grind (arith, nat_tests) in l)

module _ {X Y : Type 0} (f : X → Y) (p : Y → Bool) where
  front_map : (xs : List X) → position_or_len p (map f xs) ≡ position_or_len (λ x. p (f x)) xs
  front_map [] = refl
  front_map (x ∷ xs) = ap (λ n. cond (not (p (f x))) (1 + n) 0) (front_map xs)

  pub position_map : (xs : List X) → position p (map f xs) ≡ position (λ x. p (f x)) xs
  position_map xs =
      ap₂ (λ (n m : ℕ). cond (nat_lt n m) (Some n) None) (front_map xs) (length-map xs f)

-- ---- calls

-- each call has a part on the scope, if there is no first one without a part
pub none_without : (customers : List ℕ) (items : List Place) (lines : List (Line Task)) (scope : Scope) →
    HasNoScope customers items (calls_of lines) → IsOpen customers items scope →
    position (λ line. not (has_part scope (call_of line))) lines ≡ None → ⊥
none_without customers items lines scope none bare e = none scope (record {
  customers_are = bare.customers_are;
  items_are = bare.items_are;
  parts = all_pass (has_part scope) (calls_of lines)
      (position_map call_of (λ call. not (has_part scope call)) lines ∙ e);
})

pub first_without : (customers : List ℕ) (items : List Place) (lines : List (Line Task)) (scope : Scope) (place : ℕ) →
    HasNoScope customers items (calls_of lines) → IsOpen customers items scope →
    position (λ line. not (has_part scope (call_of line))) lines ≡ Some place →
    IsFirstWithout customers items (calls_of lines) (place + 1)
first_without customers items lines scope place none bare e = record {
  none = none;
  scope = scope;
  is_open = bare;
  place = place;
  first = position_map call_of (λ call. not (has_part scope call)) lines ∙ e;
  number = refl;
}
