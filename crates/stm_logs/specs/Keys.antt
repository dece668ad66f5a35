-- Ascending keys.
use Rattle.std.specs.Prelude.{◌≡◌, ℕ, ◌<◌, ◌≤◌, slice_index_or}
use Prim.Native.Nat.{zero, suc}
use Rattle.stm_logs.specs.declared.keys.Keys.{Keys}
use Rattle.stm_logs.specs.declared.keys.TheConstants.{NO_KEY}

-- the content of a place: a key, or `NO_KEY`
abbrev pub key_at : Keys → ℕ → ℕ
key_at keys j = slice_index_or keys.places j NO_KEY

-- x is one of the first n keys
abbrev pub HasKey : (ℕ → ℕ) → ℕ → ℕ → Type 0
HasKey key n x = (j : ℕ) × ((j < n) × (key j ≡ x))

-- the first n places have ascending keys, and the others have none
pub record AreKeys (key : ℕ → ℕ) (n : ℕ) : Type 0 where
  pub ascending : (i j : ℕ) → i < j → j < n → key i < key j
  pub below : (j : ℕ) → j < n → key j < NO_KEY
  pub none : (j : ℕ) → n ≤ j → key j ≡ NO_KEY

-- the content of the place before; 0 before the first place
abbrev pub content_before : (ℕ → ℕ) → ℕ → ℕ
content_before key zero = 0
content_before key (suc j) = key j

-- the content of a place after a key was inserted, from the contents of the place before and of the
-- place itself
pub record IsChosen (before here key result : ℕ) : Type 0 where
  pub smaller : here < key → result ≡ here
  pub first : key ≤ here → before < key → result ≡ key
  pub greater : key ≤ here → key ≤ before → result ≡ before
