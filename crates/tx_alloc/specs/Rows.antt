-- Rows: the keys of a structure with their blocks, by ascending key.
use Rattle.std.specs.Prelude.{◌≡◌, ◌≢◌, ◌⊎◌, ℕ, ◌+◌, ◌<◌, ◌≤◌, cond, List, [], ◌∷◌, nat_eq, nat_lt}

-- the key and the block of each entry
abbrev pub Rows : Type 0
Rows = List (ℕ × ℕ)

-- the number of times that rows have a block
abbrev pub times : ℕ → Rows → ℕ
times x [] = 0
times x (r ∷ rs) = cond (nat_eq r.1 x) 1 0 + times x rs

-- the rows with one more row at its position
abbrev pub put_row : Rows → ℕ → ℕ → Rows
put_row [] key b = (key, b) ∷ []
put_row (r ∷ rs) key b = cond (nat_lt r.0 key) (r ∷ put_row rs key b) ((key, b) ∷ (r ∷ rs))

-- the block of a key, or 0 if no row has the key
abbrev pub block_at : Rows → ℕ → ℕ
block_at [] key = 0
block_at (r ∷ rs) key = cond (nat_eq r.0 key) r.1 (block_at rs key)

-- the rows without the row of a key
abbrev pub cut_row : Rows → ℕ → Rows
cut_row [] key = []
cut_row (r ∷ rs) key = cond (nat_eq r.0 key) rs (r ∷ cut_row rs key)

-- all keys are below k
abbrev pub AllBelow : ℕ → Rows → Type 0
AllBelow k [] = Unit {0}
AllBelow k (r ∷ rs) = (r.0 < k) × AllBelow k rs

-- the keys ascend, and the first is at least lo
abbrev pub IsFrom : ℕ → Rows → Type 0
IsFrom lo [] = Unit {0}
IsFrom lo (r ∷ rs) = (lo ≤ r.0) × IsFrom (r.0 + 1) rs

-- the first four words of a block are as before
abbrev pub SameLinks : (ℕ → ℕ) → (ℕ → ℕ) → ℕ → Type 0
SameLinks m m' a = (k : ℕ) → k < 4 → m' (a + k) ≡ m (a + k)

-- nothing was written except the root and, in blocks of these rows, the words from `first` to 3
pub record Relinks (m m' : ℕ → ℕ) (first root : ℕ) (rs : Rows) : Type 0 where
  pub others : (x : ℕ) → x ≢ root →
      ((a : ℕ) → 0 < times a rs → (x < a + first) ⊎ (a + 4 ≤ x)) → m' x ≡ m x

-- rows are a finite map from keys to blocks: a row that is put in is found at its key, and nothing
-- else changes
abbrev pub PutLaw : Type 0
PutLaw = (rs : Rows) (key b q : ℕ) →
    block_at (put_row rs key b) q ≡ cond (nat_eq key q) b (block_at rs q)

-- the key that is cut out of ascending rows is not found, and nothing else changes
abbrev pub CutLaw : Type 0
CutLaw = (rs : Rows) (key q : ℕ) → IsFrom 0 rs →
    block_at (cut_row rs key) q ≡ cond (nat_eq key q) 0 (block_at rs q)
