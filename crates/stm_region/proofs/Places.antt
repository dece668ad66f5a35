-- The words of a core at their positions in the table.
use Rattle.std.proofs.Common.{◌≡◌, ℕ, zero, suc, ◌+◌, ◌-◌, ◌≤◌, ◌<◌, List, [], ◌∷◌, ◌++◌}
use Rattle.std.proofs.Common.{length, set, get_or, slice_set, slice_index, length-set, refl, ap, ◌∙◌, subst, arith}
use Rattle.stm_core.specs.Client.{Client}
use Rattle.stm_core.specs.Core.{Core, found, left, written}
use Rattle.stm_core.specs.Event.{Action, begin, probe, fetch, check, lock, tick, validate, put, release, give_back}
use Rattle.stm_core.specs.Event.{finish}
use Rattle.stm_core.specs.Guards.{stripe_of}
use Rattle.stm_region.specs.declared.layout.TheConstants.{FIRST_LOCK}
use Rattle.stm_region.specs.Layout.{place, padding, first_cell, InRange}
use Rattle.stm_region.specs.Rule.{listed}

get_left : (xs ys : List ℕ) (k : ℕ) → k < length xs → get_or (xs ++ ys) k 0 ≡ get_or xs k 0
get_left [] ys k h = absurd (omega arith)
get_left (x ∷ xs) ys zero h = refl
get_left (x ∷ xs) ys (suc k) h = get_left xs ys k (omega arith)

get_right : (xs ys : List ℕ) (k : ℕ) → get_or (xs ++ ys) (length xs + k) 0 ≡ get_or ys k 0
get_right [] ys k = rw Rattle.std.proofs.Common.zero-add refl
get_right (x ∷ xs) ys k = rw (Rattle.std.proofs.Common.suc-add (length xs) k) (get_right xs ys k)

set_left : (xs ys : List ℕ) (k n : ℕ) → k < length xs → set (xs ++ ys) k n ≡ set xs k n ++ ys
set_left [] ys k n h = absurd (omega arith)
set_left (x ∷ xs) ys zero n h = refl
set_left (x ∷ xs) ys (suc k) n h = ap (λ zs. x ∷ zs) (set_left xs ys k n (omega arith))

set_right : (xs ys : List ℕ) (k n : ℕ) → set (xs ++ ys) (length xs + k) n ≡ xs ++ set ys k n
set_right [] ys k n = rw Rattle.std.proofs.Common.zero-add refl
set_right (x ∷ xs) ys k n = rw (Rattle.std.proofs.Common.suc-add (length xs) k)
    (ap (λ zs. x ∷ zs) (set_right xs ys k n))

pub set_again : (l : List ℕ) (i : ℕ) → set l i (get_or l i 0) ≡ l
set_again [] i = refl
set_again (x ∷ xs) zero = refl
set_again (x ∷ xs) (suc i) = ap (λ ys. x ∷ ys) (set_again xs i)

pub stripe_lt : (s a : ℕ) → 0 < s → stripe_of s a < s
stripe_lt s a h = omega arith

module _ (gap pad : List ℕ) (c : Core) (s : ℕ) (g : length gap ≡ FIRST_LOCK - 1) (l : length c.locks ≡ s)
    (p : length pad ≡ padding s) where
  all : List ℕ
  all = listed gap pad c

  lock_place : (k : ℕ) → FIRST_LOCK + k ≡ suc (length gap + k)
  lock_place k = omega arith

  cell_place : (a : ℕ) → first_cell s + a ≡ suc (length gap + (length c.locks + (length pad + a)))
  cell_place a = omega arith

  lock_there : (k : ℕ) → k < s → slice_index (listed gap pad c) (FIRST_LOCK + k) ≡ slice_index c.locks k
  lock_there k h = rw (lock_place k) (get_right gap (c.locks ++ (pad ++ c.cells)) k ∙
      get_left c.locks (pad ++ c.cells) k (omega arith))

  cell_there : (a : ℕ) → slice_index (listed gap pad c) (first_cell s + a) ≡ slice_index c.cells a
  cell_there a = rw (cell_place a) (get_right gap (c.locks ++ (pad ++ c.cells)) (length c.locks + (length pad + a)) ∙
      (get_right c.locks (pad ++ c.cells) (length pad + a) ∙ get_right pad c.cells a))

  lock_set : (k n : ℕ) → k < s → slice_set (listed gap pad c) (FIRST_LOCK + k) n ≡ listed gap pad
      (record c { locks = slice_set c.locks k n })
  lock_set k n h = rw (lock_place k) (ap (λ zs. c.clock ∷ zs) (set_right gap (c.locks ++ (pad ++ c.cells)) k n ∙
      ap (λ zs. gap ++ zs) (set_left c.locks (pad ++ c.cells) k n (omega arith))))

  cell_set : (a n : ℕ) → slice_set (listed gap pad c) (first_cell s + a) n ≡ listed gap pad
      (record c { cells = slice_set c.cells a n })
  cell_set a n = rw (cell_place a) (ap (λ zs. c.clock ∷ zs) (set_right gap (c.locks ++ (pad ++ c.cells))
      (length c.locks + (length pad + a)) n
      ∙ ap (λ zs. gap ++ zs) (set_right c.locks (pad ++ c.cells) (length pad + a) n ∙ ap (λ zs. c.locks ++ zs)
      (set_right pad c.cells a n))))

  -- the word at a step's index is the one that the step finds
  pub found_there : (e : Action) → 0 < s → (size : ℕ) → InRange s size e →
      slice_index (listed gap pad c) (place s e) ≡ found (stripe_of s) c e
  found_there begin z n r = refl
  found_there (probe k) z n r = lock_there k r
  found_there (fetch a) z n r = cell_there a
  found_there (check a) z n r = lock_there (stripe_of s a) (stripe_lt s a z)
  found_there (lock k) z n r = lock_there k r
  found_there (tick from tag writes) z n r = refl
  found_there (validate k) z n r = lock_there k r
  found_there (put a x) z n r = cell_there a
  found_there (release k) z n r = lock_there k r
  found_there (give_back k) z n r = lock_there k r
  found_there (finish tag) z n r = refl

  -- a word written back as it was found
  same_there : (e : Action) → 0 < s → (size : ℕ) → InRange s size e →
      slice_set (listed gap pad c) (place s e) (found (stripe_of s) c e) ≡ listed gap pad c
  same_there e z n r = subst (λ m. slice_set (listed gap pad c) (place s e) m ≡ listed gap pad c) (found_there e z n r)
      (set_again (listed gap pad c) (place s e))

  -- the word that a step leaves at its index is that of the core after it
  pub left_there : (e : Action) → 0 < s → (size : ℕ) → InRange s size e → (v : Client)
      → slice_set (listed gap pad c) (place s e) (left e (found (stripe_of s) c e) v) ≡ listed gap pad
      (written e (left e (found (stripe_of s) c e) v) c)
  left_there begin z n r v = refl
  left_there (lock k) z n r v = lock_set k _ r
  left_there (tick from tag writes) z n r v = refl
  left_there (put a x) z n r v = cell_set a _
  left_there (release k) z n r v = lock_set k _ r
  left_there (give_back k) z n r v = lock_set k _ r
  left_there (finish tag) z n r v = refl
  left_there e z n r v = same_there e z n r

-- the fields that no step changes
pub record Stays (c d : Core) : Type 0 where
  pub last : d.last ≡ c.last
  pub opening : d.opening ≡ c.opening
  pub first : d.first ≡ c.first
  pub renewal : d.renewal ≡ c.renewal
  pub locks : length d.locks ≡ length c.locks
  pub clients : d.clients ≡ c.clients

same : (c : Core) → Stays c c
same c = record { last = refl; opening = refl; first = refl; renewal = refl; locks = refl; clients = refl }

lock_stays : (c : Core) (k m : ℕ) → Stays c (record c { locks = slice_set c.locks k m })
lock_stays c k m = record {
  last = refl;
  opening = refl;
  first = refl;
  renewal = refl;
  locks = length-set c.locks k m;
  clients = refl;
}

pub stays : (c : Core) (e : Action) (m : ℕ) → Stays c (written e m c)
stays c (lock k) m = lock_stays c k m
stays c (tick from tag writes) m = record {
  last = refl;
  opening = refl;
  first = refl;
  renewal = refl;
  locks = refl;
  clients = refl;
}
stays c (put a x) m = record { last = refl; opening = refl; first = refl; renewal = refl; locks = refl; clients = refl }
stays c (release k) m = lock_stays c k m
stays c (give_back k) m = lock_stays c k m
stays c _ m = same c

lock_in : (s size words k : ℕ) → words ≡ first_cell s + size → k < s → FIRST_LOCK + k < words
lock_in s size words k w h = let p : s ≤ first_cell s = omega arith in omega arith

cell_in : (s size words a : ℕ) → words ≡ first_cell s + size → a < size → first_cell s + a < words
cell_in s size words a w h = omega arith

-- the index of a step is one of the table's words
pub in_table : (s size words : ℕ) (e : Action) → words ≡ first_cell s + size → 0 < s → InRange s size e →
    place s e < words
in_table s size words begin w z r = omega arith
in_table s size words (probe k) w z r = lock_in s size words k w r
in_table s size words (fetch a) w z r = cell_in s size words a w r
in_table s size words (check a) w z r = lock_in s size words (stripe_of s a) w (stripe_lt s a z)
in_table s size words (lock k) w z r = lock_in s size words k w r
in_table s size words (tick from tag writes) w z r = omega arith
in_table s size words (validate k) w z r = lock_in s size words k w r
in_table s size words (put a x) w z r = cell_in s size words a w r
in_table s size words (release k) w z r = lock_in s size words k w r
in_table s size words (give_back k) w z r = lock_in s size words k w r
in_table s size words (finish tag) w z r = omega arith
