-- Plain memory: every image of its size fits, nothing of the image was read, and all words are
-- written.
use Rattle.std.specs.Prelude.{◌≡◌, ℕ, ◌+◌, List, [], ◌∷◌, length}
use Rattle.std.specs.FinMap.{insert, empty}
use Rattle.tx_memory.specs.View.{View, Words}

-- the map of the words of a list, at the addresses from i on
abbrev pub numbered : ℕ → List ℕ → Words
numbered i [] = empty
numbered i (x ∷ xs) = insert (numbered (i + 1) xs) i x

-- plain memory as a transactional memory: all its words were written and none was read
abbrev pub flat_view : List ℕ → View
flat_view xs = record {
  size = length xs;
  fits = λ image. length image ≡ length xs;
  reads = empty;
  writes = numbered 0 xs;
}
