-- The words of a partitioned heap are small, and so are the writes of them.
use Rattle.std.proofs.Common.{◌≡◌, ◌≢◌, ◌⊎◌, inl, inr, ◌+◌, ◌-◌, ◌*◌, ◌<◌, ◌≤◌, ◌^◌, ℕ, suc, zero, Bool, true}
use Rattle.std.proofs.Common.{false, cond}
use Rattle.std.proofs.Common.{List, [], ◌∷◌, length, refl, sym, ap, subst, arith, length-append, ◌∙◌}
use Rattle.std.proofs.lemmas.List.{ext_get_or}
use Rattle.std.proofs.Common.{add-one}
use Rattle.std.specs.Prelude.{eqb, nat_lt, slice_index, All}
use Rattle.std.proofs.lemmas.Bool.Decides.{nat_tests}
use Rattle.std.proofs.lemmas.Bool.{cases_lt}
use Rattle.std.proofs.lemmas.List.Elements.{All-nil, All-cons, All-append}
use Rattle.tx_alloc.specs.Pool.{block_place, place_of_block}
use Rattle.tx_alloc.specs.Spread.{IsSpreadHeap, share_of_list, spread_start}
use Rattle.tx_alloc.proofs.Empty.{eight_lists}
use Rattle.tx_memory.specs.declared.access.Access.TheVariants.{Write}
use Rattle.load_record.specs.Laying.{write_of, writes_from}
use Rattle.load_record.specs.Entries.{FitsAccess}

-- ---- the list of a block

start_next : (n i : ℕ) → spread_start n (i + 1) ≡ share_of_list n i + spread_start n i
start_next n i = rw (add-one i) refl

start_grows : (n i j : ℕ) → i ≤ j → spread_start n i ≤ spread_start n j
start_grows n i zero l = let e : i ≡ 0 = omega arith in omega (arith, ap (spread_start n) e)
start_grows n i (suc j) l =
    elim (cases_lt j i) [
      | inl here ↦ (let e : i ≡ suc j = omega arith in omega (arith, ap (spread_start n) e))
      | inr below ↦ omega (arith, start_grows n i j below)
    ]

start_all : (n : ℕ) → spread_start n 8 ≡ n
start_all n = eight_lists n

-- the list among the first k ones that has a block
record InList (n b k : ℕ) : Type 0 where
  list : ℕ
  low : list < k
  from : spread_start n list ≤ b
  before : b < spread_start n (list + 1)

in_list : (n b k : ℕ) → b < spread_start n k → InList n b k
in_list n b zero l = absurd (omega (arith, l))
in_list n b (suc k) l =
    elim (cases_lt b (spread_start n k)) [
      | inl below ↦ (let o = in_list n b k below in record {
        list = o.list;
        low = (let low = o.low in omega (arith, low));
        from = o.from;
        before = o.before;
      })
      | inr above ↦ record {
        list = k;
        low = omega arith;
        from = above;
        before = subst (λ j. b < spread_start n j) (sym (add-one k)) l;
      }
    ]

-- ---- the words

small_place : (end b : ℕ) → end ≤ 262144 → place_of_block end b < 2 ^ 64
small_place end b few = go (nat_lt b end) refl
  where
    go : (t : Bool) → nat_lt b end ≡ t → cond t (16 + 8 * b) 0 < 2 ^ 64
    go true e = let low : b < end = grind (arith, nat_tests, e) in omega (arith, low, few)
    go false e = omega arith

-- a block begins at an address
record IsFirstOf (n x : ℕ) : Type 0 where
  b : ℕ
  low : b < n
  at : x ≡ block_place b

-- none of the first blocks does
abbrev IsFirstOfNone : ℕ → ℕ → Type 0
IsFirstOfNone k x = (b : ℕ) → b < k → x ≢ block_place b

none_more : (k x : ℕ) → x ≢ block_place k → IsFirstOfNone k x → IsFirstOfNone (suc k) x
none_more k x ne none b low = go (cases_lt b k)
  where
    go : (b < k) ⊎ (k ≤ b) → x ≢ block_place b
    go (inl before) = none b before
    go (inr after) = let same : k ≡ b = omega (arith, low, after) in subst (λ c. x ≢ block_place c) same ne

either_more : (n k x : ℕ) → x ≢ block_place k → IsFirstOf n x ⊎ IsFirstOfNone k x →
    IsFirstOf n x ⊎ IsFirstOfNone (suc k) x
either_more n k x ne (inl is) = inl is
either_more n k x ne (inr none) = inr (none_more k x ne none)

first_of : (n x k : ℕ) → k ≤ n → IsFirstOf n x ⊎ IsFirstOfNone k x
first_of n x zero l = inr (λ b low. absurd (omega (arith, low)))
first_of n x (suc k) l =
    go (cases_lt x (16 + 8 * k)) (cases_lt (16 + 8 * k) x) (first_of n x k (omega (arith, l)))
  where
    go : (x < 16 + 8 * k) ⊎ (16 + 8 * k ≤ x) → (16 + 8 * k < x) ⊎ (x ≤ 16 + 8 * k) →
        IsFirstOf n x ⊎ IsFirstOfNone k x → IsFirstOf n x ⊎ IsFirstOfNone (suc k) x
    go (inl less) two more = either_more n k x (λ e. omega (arith, less, e)) more
    go (inr ge) (inl above) more = either_more n k x (λ e. omega (arith, above, e)) more
    go (inr ge) (inr le) more = inl (record { b = k; low = omega (arith, l); at = omega (arith, ge, le) })

module _ (xs : List ℕ) (n : ℕ) (h : IsSpreadHeap xs n) (few : n ≤ 262144) where
  few_before : (i : ℕ) → i ≤ 8 → spread_start n i ≤ 262144
  few_before i l = let grows = start_grows n i 8 l in let all = start_all n in omega (arith, grows, all, few)

  head_small : (i : ℕ) → i < 8 → slice_index xs (8 + i) < 2 ^ 64
  head_small i l =
      subst (λ v. v < 2 ^ 64) (sym (h.heads i l))
      (small_place (spread_start n (i + 1)) (spread_start n i) (few_before (i + 1) (omega (arith, l))))

  block_small : (b : ℕ) → b < n → slice_index xs (block_place b) < 2 ^ 64
  block_small b l =
      let all = start_all n in
      let o = in_list n b 8 (omega (arith, l, all)) in
      subst (λ v. v < 2 ^ 64) (sym (h.nexts o.list b o.low o.from o.before))
      (small_place (spread_start n (o.list + 1)) (b + 1)
      (few_before (o.list + 1) (let low = o.low in omega (arith, low))))

  other_small : (x : ℕ) → ((i : ℕ) → i < 8 → x ≢ 8 + i) → slice_index xs x < 2 ^ 64
  other_small x no_head = elim (first_of n x n (omega arith)) [
    | inl is ↦ subst (λ a. slice_index xs a < 2 ^ 64) (sym is.at) (block_small is.b is.low)
    | inr none ↦ (let zero_is = h.others x no_head none in subst (λ v. v < 2 ^ 64) (sym zero_is) (omega arith))
  ]

  -- each word of the heap is a number of 64 bits
  pub word_small : (x : ℕ) → slice_index xs x < 2 ^ 64
  word_small x = go (cases_lt x 8) (cases_lt x 16)
    where
      go : (x < 8) ⊎ (8 ≤ x) → (x < 16) ⊎ (16 ≤ x) → slice_index xs x < 2 ^ 64
      go (inl less) two = other_small x (λ i l e. omega (arith, less, e))
      go (inr ge) (inr above) = other_small x (λ i l e. omega (arith, l, above, e))
      go (inr ge) (inl less) =
          let at : 8 + (x - 8) ≡ x = omega (arith, ge) in
          subst (λ a. slice_index xs a < 2 ^ 64) at (head_small (x - 8) (omega (arith, ge, less)))

-- ---- one heap has this number of blocks

module _ (xs ys : List ℕ) (n : ℕ) (h : IsSpreadHeap xs n) (k : IsSpreadHeap ys n) where
  same_head : (i : ℕ) → i < 8 → slice_index xs (8 + i) ≡ slice_index ys (8 + i)
  same_head i l = h.heads i l ∙ sym (k.heads i l)

  same_block : (b : ℕ) → b < n → slice_index xs (block_place b) ≡ slice_index ys (block_place b)
  same_block b l =
      let all = start_all n in
      let o = in_list n b 8 (omega (arith, l, all)) in
      h.nexts o.list b o.low o.from o.before ∙ sym (k.nexts o.list b o.low o.from o.before)

  same_other : (x : ℕ) → ((i : ℕ) → i < 8 → x ≢ 8 + i) → slice_index xs x ≡ slice_index ys x
  same_other x no_head = elim (first_of n x n (omega arith)) [
    | inl is ↦ subst (λ a. slice_index xs a ≡ slice_index ys a) (sym is.at) (same_block is.b is.low)
    | inr none ↦ h.others x no_head none ∙ sym (k.others x no_head none)
  ]

  same_word : (x : ℕ) → slice_index xs x ≡ slice_index ys x
  same_word x = go (cases_lt x 8) (cases_lt x 16)
    where
      go : (x < 8) ⊎ (8 ≤ x) → (x < 16) ⊎ (16 ≤ x) → slice_index xs x ≡ slice_index ys x
      go (inl less) two = same_other x (λ i l e. omega (arith, less, e))
      go (inr ge) (inr above) = same_other x (λ i l e. omega (arith, l, above, e))
      go (inr ge) (inl less) =
          let at : 8 + (x - 8) ≡ x = omega (arith, ge) in
          subst (λ a. slice_index xs a ≡ slice_index ys a) at (same_head (x - 8) (omega (arith, ge, less)))

  pub one_heap : xs ≡ ys
  one_heap = ext_get_or 0 xs ys (h.size ∙ sym k.size) (λ x low. same_word x)

-- ---- the writes of words

one_write : (words address w : ℕ) → address < words → words ≤ 2 ^ 32 → w < 2 ^ 64 →
    All (λ x. FitsAccess words x) (write_of address w)
one_write words address w among most small = go (eqb w 0)
  where
    go : (b : Bool) → All (λ x. FitsAccess words x) (cond b [] (Write (record { 0 = address }) w ∷ []))
    go true = All-nil (λ x. FitsAccess words x)
    go false = All-cons (λ x. FitsAccess words x) (Write (record { 0 = address }) w) []
        (record { address_fits = omega (arith, among, most); among = among; value_fits = small })
        (All-nil (λ x. FitsAccess words x))

-- the writes fit if the words do
pub writes_fit : (words first : ℕ) (ws : List ℕ) → first + length ws ≤ words → words ≤ 2 ^ 32 →
    ((k : ℕ) → slice_index ws k < 2 ^ 64) → All (λ x. FitsAccess words x) (writes_from first ws)
writes_fit words first [] long most small = All-nil (λ x. FitsAccess words x)
writes_fit words first (w ∷ ws) long most small =
    All-append (λ x. FitsAccess words x) (write_of first w) (writes_from (suc first) ws)
    (one_write words first w (omega (arith, long)) most (small 0))
    (writes_fit words (suc first) ws (omega (arith, long)) most (λ k. small (suc k)))

one_at_most : (address w : ℕ) → length (write_of address w) ≤ 1
one_at_most address w = go (eqb w 0)
  where
    go : (b : Bool) → length (cond b [] (Write (record { 0 = address }) w ∷ [])) ≤ 1
    go true = omega arith
    go false = omega arith

-- there are no more writes than words
pub writes_few : (first : ℕ) (ws : List ℕ) → length (writes_from first ws) ≤ length ws
writes_few first [] = omega arith
writes_few first (w ∷ ws) =
    let one = one_at_most first w in
    let more = writes_few (suc first) ws in
    let both = length-append (write_of first w) (writes_from (suc first) ws) in
    omega (arith, one, more, both)
