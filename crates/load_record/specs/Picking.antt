-- Picking the calls of all clients, one after the other.
use Rattle.std.specs.Prelude.{◌≡◌, ℕ, false, List, [], ◌∷◌}
use Rattle.load_record.specs.Order.{Entry, TakesFirst, list_at, precedes}

-- the call was the first of one of the lists and was removed from it; no list begins with a call
-- that precedes it
pub record Picks (e : Entry) (lists others : List (List Entry)) : Type 0 where
  pub takes : TakesFirst e lists others
  pub least : (place : ℕ) (first : Entry) (more : List Entry) →
      list_at lists place ≡ first ∷ more → precedes first.note e.note ≡ false

-- these calls were picked, one after the other, and these lists are left
abbrev pub PicksAll : List (List Entry) → List Entry → List (List Entry) → Type 0
PicksAll lists [] left = lists ≡ left
PicksAll lists (e ∷ all) left =
    (others : List (List Entry)) × Picks e lists others × PicksAll others all left

-- all lists are empty
abbrev pub IsEmpty : List (List Entry) → Type 0
IsEmpty lists = (place : ℕ) → list_at lists place ≡ []

-- these calls were picked, one after the other, until all lists were empty
pub record Merges (lists : List (List Entry)) (all : List Entry) : Type 0 where
  pub left : List (List Entry)
  pub picked : PicksAll lists all left
  pub empty : IsEmpty left
