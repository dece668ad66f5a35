-- The words of a heap whose lists have a piece of it each are a pool of which every block is free.
use Rattle.std.proofs.Common.{◌≡◌, ℕ, ◌+◌, ◌*◌, ◌<◌, ◌≤◌, List, nat_lt, true, length}
use Rattle.std.proofs.Common.{slice_index, refl, arith, zero, suc}
use Rattle.std.proofs.lemmas.Bool.Decides.{nat_tests}
use Rattle.std.proofs.lemmas.Bool.{cases_lt, lt-ltb, le-ltb}
use Rattle.tx_memory.specs.Seen.{same_or}
use Rattle.tx_alloc.specs.Pool.{Free, held, sum_below, IsPool, place_of_block}
use Rattle.tx_alloc.specs.Spread.{IsSpreadHeap, share_of_list, spread_start, blocks_from, spread_lists}
use Rattle.tx_alloc.proofs.Sums.{sum_one}
use Rattle.tx_alloc.proofs.Spreading.{start_next, start_grows, start_all}

abbrev words_of : List ℕ → ℕ → ℕ
words_of xs a = slice_index xs a

-- the blocks from b on, k of them, are linked
piece_free : (xs : List ℕ) (n i k b : ℕ) → IsSpreadHeap xs n → i < 8 → spread_start n i ≤ b →
    b + k ≡ spread_start n (i + 1) → Free (words_of xs) (length xs) (place_of_block (spread_start n (i + 1)) b)
    (blocks_from k b)
piece_free xs n i zero b h l ge e = grind (arith, nat_tests, le-ltb b (spread_start n (i + 1)))
piece_free xs n i (suc k) b h l ge e =
    let below : b < spread_start n (i + 1) = omega arith in
    let t : nat_lt b (spread_start n (i + 1)) ≡ true = lt-ltb b (spread_start n (i + 1)) below in
    rw t (
      refl,
      (b, (omega (arith, h.size, below, start_grows n (i + 1) 8 (omega arith), start_all n), refl)),
      rw (h.nexts i b l ge below) (piece_free xs n i k (b + 1) h l (omega arith) (omega arith)),
    )

-- a block before the piece or behind it is not in it
outside : (k s b : ℕ) → (b < s) → held (16 + 8 * b) (blocks_from k s) ≡ 0
outside zero s b l = refl
outside (suc k) s b l = grind (arith, nat_tests, outside k (s + 1) b)

behind : (k s b : ℕ) → (s + k ≤ b) → held (16 + 8 * b) (blocks_from k s) ≡ 0
behind zero s b l = refl
behind (suc k) s b l = grind (arith, nat_tests, behind k (s + 1) b)

-- one of the piece is there once
inside : (k s b : ℕ) → s ≤ b → b < s + k → held (16 + 8 * b) (blocks_from k s) ≡ 1
inside zero s b l l' = absurd (omega arith)
inside (suc k) s b l l' = grind (arith, nat_tests, same_or s b, outside k (s + 1) b, inside k (s + 1) b)

-- the list of a block
record Owner (n b k : ℕ) : Type 0 where
  list : ℕ
  below : list < k
  from : spread_start n list ≤ b
  before : b < spread_start n (list + 1)

owner : (n b k : ℕ) → b < spread_start n k → Owner n b k
owner n b zero l = absurd (omega arith)
owner n b (suc k) l = grind (arith, nat_tests, cases_lt b (spread_start n k), owner n b k, start_next n k)

length_piece : (k b : ℕ) → length (blocks_from k b) ≡ k
length_piece zero b = refl
length_piece (suc k) b = omega (arith, length_piece k (b + 1))

once_there : (n b : ℕ) → b < n → sum_below 8 (λ i. held (16 + 8 * b) (spread_lists n i)) ≡ 1
once_there n b l = grind (
  arith,
  nat_tests,
  owner n b 8,
  start_all n,
  sum_one 8,
  inside,
  start_next n,
  cases_lt,
  behind,
  start_grows n,
  outside,
)

pub spread_pool : (xs : List ℕ) (n : ℕ) → IsSpreadHeap xs n →
    IsPool (λ (a : ℕ). slice_index xs a) (length xs) (spread_lists n) (λ (x : ℕ). 0) 0
spread_pool xs n h = record {
  lists = λ i l. rw (h.heads i l) (piece_free xs n i (share_of_list n i) (spread_start n i) h l (omega arith)
      (omega (arith, start_next n i)));
  once = λ x b.
      let less : b.0 < n = omega (arith, h.size, b.1.0, b.1.1) in
      rw b.1.1 (omega (arith, once_there n b.0 less));
  all = let each : (i : ℕ) → length (spread_lists n i) ≡ share_of_list n i =
      λ i. length_piece (share_of_list n i) (spread_start n i)
      in
      omega (arith, h.size, start_all n, each 0, each 1, each 2, each 3, each 4, each 5, each 6, each 7);
}
