-- Images, and finite maps over them as lists of pairs.
use Rattle.std.specs.Prelude.{◌≡◌, ℕ, ◌<◌, List, [], ◌∷◌, slice_index, slice_set, length}
use mathlib.Core.Option.{some}
use lib.ListN.{get_elem?}

-- x is a member of the list
abbrev pub In : {A : Type 0} → A → List A → Type 0
In x xs = (j : ℕ) × (get_elem? xs j ≡ some x)

-- the image has the value at the address
abbrev pub Has : List ℕ → ℕ → ℕ → Type 0
Has image address value = (address < length image) × (slice_index image address ≡ value)

-- for each pair, the image has the pair's value at its address
abbrev pub Agrees : List ℕ → List (ℕ × ℕ) → Type 0
Agrees image reads = (address value : ℕ) → In (address, value) reads → Has image address value

-- the image with the pairs written to it in their order, so that the last pair of an address
-- counts
abbrev pub laid : List ℕ → List (ℕ × ℕ) → List ℕ
laid image [] = image
laid image (pair ∷ pairs) = laid (slice_set image pair.0 pair.1) pairs
