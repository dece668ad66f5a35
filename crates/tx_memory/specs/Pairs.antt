-- Lists of pairs as finite maps.
use Rattle.std.proofs.Common.{ℕ, List, [], ◌∷◌}
use Rattle.std.specs.FinMap.{insert, empty}
use Rattle.tx_memory.specs.View.{Words}

-- the map with the pairs inserted in their order, so that the last pair of an address counts
abbrev pub with_pairs : Words → List (ℕ × ℕ) → Words
with_pairs m [] = m
with_pairs m (pair ∷ pairs) = with_pairs (insert m pair.0 pair.1) pairs

-- the map of a list of pairs; the last pair of an address counts
abbrev pub map_of : List (ℕ × ℕ) → Words
map_of pairs = with_pairs empty pairs
