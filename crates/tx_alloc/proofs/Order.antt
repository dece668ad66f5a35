-- Rows in ascending order, put together from what is in front of a place and what is behind it.
use Rattle.std.proofs.Common.{◌≡◌, ◌≢◌, inl, inr, ℕ, ◌+◌, ◌<◌, ◌≤◌, true, false, nat_eq, nat_lt, [], ◌∷◌, cond, ◌++◌}
use Rattle.std.proofs.Common.{refl, ap, arith}
use Rattle.std.proofs.lemmas.Bool.{cases_lt}
use Rattle.std.proofs.lemmas.Bool.Decides.{nat_tests}
use Rattle.tx_memory.specs.Seen.{same_or}
use Rattle.tx_alloc.specs.Rows.{Rows, times, put_row, cut_row, block_at, AllBelow, IsFrom}

pub from_lower : (lo lo' : ℕ) (rs : Rows) → lo' ≤ lo → IsFrom lo rs → IsFrom lo' rs
from_lower lo lo' [] l h = tt
from_lower lo lo' (r ∷ rs) l h = (omega arith, h.1)

pub below_higher : (k k' : ℕ) (rs : Rows) → k ≤ k' → AllBelow k rs → AllBelow k' rs
below_higher k k' [] l h = tt
below_higher k k' (r ∷ rs) l h = (omega arith, below_higher k k' rs l h.1)

pub record Split (lo : ℕ) (xs : Rows) (r : ℕ × ℕ) (ys : Rows) : Type 0 where
  pub low : lo ≤ r.0
  pub before : AllBelow r.0 xs
  pub after : IsFrom (r.0 + 1) ys

pub split : (lo : ℕ) (xs : Rows) (r : ℕ × ℕ) (ys : Rows) → IsFrom lo (xs ++ (r ∷ ys)) → Split lo xs r ys
split lo [] r ys h = record { low = h.0; before = tt; after = h.1 }
split lo (x ∷ xs) r ys h = grind (arith, nat_tests, split (x.0 + 1) xs r ys h.1)

pub below_both : (k : ℕ) (xs ys : Rows) → AllBelow k xs → AllBelow k ys → AllBelow k (xs ++ ys)
below_both k [] ys h g = g
below_both k (x ∷ xs) ys h g = (h.0, below_both k xs ys h.1 g)

-- a row between rows below its key and rows above it
pub put_between : (xs ys : Rows) (key b : ℕ) → AllBelow key xs → IsFrom (key + 1) ys →
    put_row (xs ++ ys) key b ≡ xs ++ ((key, b) ∷ ys)
put_between [] [] key b h g = refl
put_between [] (y ∷ ys) key b h g =
    let t : nat_lt y.0 key ≡ false = grind (arith, nat_tests) in rw t refl
put_between (x ∷ xs) ys key b h g = grind (arith, nat_tests, put_between xs ys key b h.1 g)

pub cut_between : (xs ys : Rows) (key b : ℕ) → AllBelow key xs → cut_row (xs ++ ((key, b) ∷ ys)) key ≡ xs ++ ys
cut_between [] ys key b h =
    let t : nat_eq key key ≡ true = grind (arith, nat_tests) in rw t refl
cut_between (x ∷ xs) ys key b h = grind (arith, nat_tests, cut_between xs ys key b h.1)

pub at_between : (xs ys : Rows) (key b : ℕ) → AllBelow key xs → block_at (xs ++ ((key, b) ∷ ys)) key ≡ b
at_between [] ys key b h =
    let t : nat_eq key key ≡ true = grind (arith, nat_tests) in rw t refl
at_between (x ∷ xs) ys key b h = grind (arith, nat_tests, at_between xs ys key b h.1)

pub none_above : (lo : ℕ) (ys : Rows) (key : ℕ) → key < lo → IsFrom lo ys → block_at ys key ≡ 0
none_above lo [] key l g = refl
none_above lo (y ∷ ys) key l g = grind (arith, nat_tests, none_above (y.0 + 1) ys key)

pub none_between : (xs ys : Rows) (key : ℕ) → AllBelow key xs → IsFrom (key + 1) ys → block_at (xs ++ ys) key ≡ 0
none_between [] ys key h g = none_above (key + 1) ys key (omega arith) g
none_between (x ∷ xs) ys key h g = grind (arith, nat_tests, none_between xs ys key h.1 g)

pub from_put : (lo : ℕ) (xs ys : Rows) (key b : ℕ) → lo ≤ key → AllBelow key xs → IsFrom (key + 1) ys →
    IsFrom lo (xs ++ ys) → IsFrom lo (xs ++ ((key, b) ∷ ys))
from_put lo [] ys key b l h g f = (l, g)
from_put lo (x ∷ xs) ys key b l h g f = (f.0, from_put (x.0 + 1) xs ys key b (omega (arith, h.0)) h.1 g f.1)

pub from_cut : (lo : ℕ) (xs : Rows) (r : ℕ × ℕ) (ys : Rows) → IsFrom lo (xs ++ (r ∷ ys)) → IsFrom lo (xs ++ ys)
from_cut lo [] r ys f = from_lower (r.0 + 1) lo ys (omega (arith, f.0)) f.1
from_cut lo (x ∷ xs) r ys f = (f.0, from_cut (x.0 + 1) xs r ys f.1)

pub times_both : (x : ℕ) (xs ys : Rows) → times x (xs ++ ys) ≡ times x xs + times x ys
times_both x [] ys = omega arith
times_both x (r ∷ xs) ys = let i = times_both x xs ys in omega arith

-- a key that no row has
pub cut_absent : (rs : Rows) (key : ℕ) → ((x : ℕ) → 0 < times x rs → x ≢ 0) → block_at rs key ≡ 0 → cut_row rs key ≡ rs
cut_absent [] key some e = refl
cut_absent (r ∷ rs) key some e = elim (same_or r.0 key) [
  | inl same ↦ absurd (some r.1 (grind (arith, nat_tests)) (let t : nat_eq r.0 key ≡ true = grind (arith, nat_tests) in
      rw t at e))
  | inr other ↦ (let t : nat_eq r.0 key ≡ false = grind (arith, nat_tests) in
      rw t (ap (λ (z : Rows). r ∷ z) (cut_absent rs key (λ x l. some x (omega arith)) (rw t at e))))
]

-- rows as a finite map
pub at_put : (rs : Rows) (key b q : ℕ) → block_at (put_row rs key b) q ≡ cond (nat_eq key q) b (block_at rs q)
at_put [] key b q = refl
at_put (r ∷ rs) key b q = grind (arith, nat_tests, at_put rs key b q, cases_lt r.0 key)

pub at_cut : (rs : Rows) (lo key q : ℕ) → IsFrom lo rs → block_at (cut_row rs key) q ≡ cond (nat_eq key q) 0
    (block_at rs q)
at_cut [] lo key q h = grind (arith, nat_tests)
at_cut (r ∷ rs) lo key q h = grind (
  arith,
  nat_tests,
  same_or r.0 key,
  same_or key q,
  none_above (r.0 + 1) rs q,
  at_cut rs (r.0 + 1) key q h.1,
)
