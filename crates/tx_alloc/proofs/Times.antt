-- How often rows have a block.
use Rattle.std.proofs.Common.{◌≡◌, ◌≢◌, ℕ, ◌+◌, ◌<◌, ◌≤◌, [], ◌∷◌, cond, nat_eq, length, true, false, refl}
use Rattle.std.proofs.Common.{sym, arith}
use Rattle.std.proofs.lemmas.Bool.Decides.{nat_tests}
use Rattle.std.proofs.lemmas.Bool.{cases_lt}
use Rattle.tx_memory.specs.Seen.{same_or}
use Rattle.tx_alloc.specs.Rows.{Rows, times, put_row, cut_row, block_at}

pub times_first : (k a : ℕ) (rs : Rows) → 0 < times a ((k, a) ∷ rs)
times_first k a rs = grind (arith, nat_tests)

pub times_more : (r : ℕ × ℕ) (a : ℕ) (rs : Rows) → times a rs ≤ times a (r ∷ rs)
times_more r a rs = omega arith

-- a measure of rows that adds up over them is one summand more after a put
put_is : (k a key b : ℕ) (rs : Rows) → k < key → put_row ((k, a) ∷ rs) key b ≡ (k, a) ∷ put_row rs key b
put_is k a key b rs below = grind (arith, nat_tests)

put_here : (k a key b : ℕ) (rs : Rows) → key ≤ k → put_row ((k, a) ∷ rs) key b ≡ (key, b) ∷ ((k, a) ∷ rs)
put_here k a key b rs here = grind (arith, nat_tests)

pub times_put : (x key b : ℕ) (rs : Rows) → times x (put_row rs key b) ≡ cond (nat_eq b x) 1 0 + times x rs
times_put x key b [] = refl
times_put x key b ((k, a) ∷ rs) = grind (
  arith,
  nat_tests,
  cases_lt k key,
  put_is k a key b rs,
  times_put x key b rs,
  put_here k a key b rs,
)

pub length_put : (key b : ℕ) (rs : Rows) → length (put_row rs key b) ≡ 1 + length rs
length_put key b [] = refl
length_put key b ((k, a) ∷ rs) = grind (
  arith,
  nat_tests,
  cases_lt k key,
  put_is k a key b rs,
  length_put key b rs,
  put_here k a key b rs,
)

-- the block at a key that is there leaves the rows
pub cut_is : (k a key : ℕ) (rs : Rows) → k ≡ key → (cut_row ((k, a) ∷ rs) key ≡ rs) × (block_at ((k, a) ∷ rs) key ≡ a)
cut_is k a key rs e = let t : nat_eq k key ≡ true = grind (arith, nat_tests) in rw t (refl, refl)

pub cut_else : (k a key : ℕ) (rs : Rows) → k ≢ key → (cut_row ((k, a) ∷ rs) key ≡ (k, a) ∷ cut_row rs key) ×
    (block_at ((k, a) ∷ rs) key ≡ block_at rs key)
cut_else k a key rs e = let t : nat_eq k key ≡ false = grind (arith, nat_tests) in rw t (refl, refl)

pub times_cut : (x key b : ℕ) (rs : Rows) → block_at rs key ≡ b → b ≢ 0 →
    cond (nat_eq b x) 1 0 + times x (cut_row rs key) ≡ times x rs
times_cut x key b [] e ne = absurd (ne (sym e))
times_cut x key b ((k, a) ∷ rs) e ne = grind (
  arith,
  nat_tests,
  same_or k key,
  cut_is k a key rs,
  cut_else k a key rs,
  times_cut x key b rs,
)

pub length_cut : (key b : ℕ) (rs : Rows) → block_at rs key ≡ b → b ≢ 0 → 1 + length (cut_row rs key) ≡ length rs
length_cut key b [] e ne = absurd (ne (sym e))
length_cut key b ((k, a) ∷ rs) e ne = grind (
  arith,
  nat_tests,
  same_or k key,
  cut_is k a key rs,
  cut_else k a key rs,
  length_cut key b rs,
)
