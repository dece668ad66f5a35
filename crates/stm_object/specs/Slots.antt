-- Maps in slots. A slot has a word for its key and a word for its value. The first is one more
-- than the key, or 0 if the slot is free. Two functions give the addresses of these words.
use Rattle.std.proofs.Common.{◌≡◌, ◌≢◌, ◌⊎◌, inl, inr, ℕ, zero, suc, ◌+◌, ◌<◌, ◌≤◌, true, false, List, length, slice_index, slice_set, get_or-set_same, get_or-set_other, Option, Some, None, refl, sym, ap, ◌∙◌, subst, cond, is_some, arith}
use Rattle.std.specs.FinMap.{get, insert, remove, empty, len, get-empty, get-remove, len-empty, len-insert, same_map, nat_cmp-IsAntisymmetric}
use Rattle.std.specs.Ordering.{nat_cmp, eq_by_cmp}
use Rattle.std.proofs.lemmas.Cmp.{nat_cmp_total}
use Rattle.std.proofs.lemmas.Bool.Decides.{nat_tests}
use Rattle.tx_memory.specs.View.{Words}
use Rattle.tx_memory.specs.Seen.{same_or, get_here, get_other}
use Rattle.stm_object.specs.Search.{IsFirstWithWord, IsSlot}

-- the map with the entry of one more slot, if the slot is not free
abbrev with_slot : ℕ → ℕ → Words → Words
with_slot zero value m = m
with_slot (suc key) value m = insert m key value

-- the map in the first n slots
pub map_in : (ℕ → ℕ) → (ℕ → ℕ) → ℕ → Words
map_in key value zero = empty
map_in key value (suc n) = with_slot (key n) (value n) (map_in key value n)

-- none of the first n slots has this word as its key word
abbrev pub HasNoSlot : (ℕ → ℕ) → ℕ → ℕ → Type 0
HasNoSlot key n word = (j : ℕ) → j < n → key j ≢ word

-- no other slot among the first n has this word as its key word
abbrev pub NoOther : (ℕ → ℕ) → ℕ → ℕ → ℕ → Type 0
NoOther key n i word = (j : ℕ) → j < n → j ≢ i → key j ≢ word

-- two different slots among the first n with the same key word are both free
abbrev pub KeysAreApart : (ℕ → ℕ) → ℕ → Type 0
KeysAreApart key n = (i j : ℕ) → i < n → j < n → i ≢ j → key i ≡ key j → key i ≡ 0

-- the slot is the place for the word: it has the word, or it is free and no slot has the word
abbrev pub IsPlace : (ℕ → ℕ) → ℕ → ℕ → ℕ → Type 0
IsPlace key n word i = (i < n) × ((key i ≡ word) ⊎ ((key i ≡ 0) × HasNoSlot key n word))

-- of the first n words, only the one at i changed, to w
pub record IsSet (n : ℕ) (f f' : ℕ → ℕ) (i w : ℕ) : Type 0 where
  pub here : f' i ≡ w
  pub others : (j : ℕ) → j < n → j ≢ i → f' j ≡ f j

-- look-ups after a removal
get_gone : (m : Words) (k : ℕ) → get (remove m k) k ≡ None
get_gone m k =
    let t : eq_by_cmp nat_cmp k k ≡ true = grind (arith, nat_tests) in
    rw (get-remove nat_cmp_total m k k, t) refl

get_left : (m : Words) (k q : ℕ) → q ≢ k → get (remove m k) q ≡ get m q
get_left m k q ne =
    let t : eq_by_cmp nat_cmp q k ≡ false = grind (arith, nat_tests) in
    rw (get-remove nat_cmp_total m k q, t) refl

same : (m n : Words) → ((q : ℕ) → get m q ≡ get n q) → m ≡ n
same m n e = same_map nat_cmp_total nat_cmp-IsAntisymmetric m n e

-- an insertion over another at the same key, and insertions at two different keys
twice : (m : Words) (k v w : ℕ) → insert (insert m k v) k w ≡ insert m k w
twice m k v w = same _ _ (λ q. elim (same_or q k) [
  | inl here ↦ rw here (get_here (insert m k v) k w ∙ sym (get_here m k w))
  | inr else ↦ get_other (insert m k v) k w q else ∙ get_other m k v q else
      ∙ sym (get_other m k w q else)
])

swapped : (m : Words) (a x b y : ℕ) → a ≢ b →
    insert (insert m a x) b y ≡ insert (insert m b y) a x
swapped m a x b y ne = same _ _ (λ q. elim (same_or q b) [
  | inl here ↦ rw here (get_here (insert m a x) b y
      ∙ sym (get_other (insert m b y) a x b (omega (arith, ne)) ∙ get_here m b y))
  | inr else ↦ get_other (insert m a x) b y q else ∙ elim (same_or q a) [
    | inl here ↦ rw here (get_here m a x ∙ sym (get_here (insert m b y) a x))
    | inr other ↦ get_other m a x q other
        ∙ sym (get_other (insert m b y) a x q other ∙ get_other m b y q else)
  ]
])

-- a removal after an insertion, at the same key and at another one
undone : (m : Words) (k v : ℕ) → get m k ≡ None → remove (insert m k v) k ≡ m
undone m k v none = same _ _ (λ q. elim (same_or q k) [
  | inl here ↦ rw here (get_gone (insert m k v) k ∙ sym none)
  | inr else ↦ get_left (insert m k v) k q else ∙ get_other m k v q else
])

removed_first : (m : Words) (k j w : ℕ) → j ≢ k →
    insert (remove m k) j w ≡ remove (insert m j w) k
removed_first m k j w ne = same _ _ (λ q. elim (same_or q k) [
  | inl here ↦ rw here (get_other (remove m k) j w k (omega (arith, ne)) ∙ get_gone m k
      ∙ sym (get_gone (insert m j w) k))
  | inr else ↦ elim (same_or q j) [
    | inl here ↦ rw here (get_here (remove m k) j w
        ∙ sym (get_left (insert m j w) k j ne ∙ get_here m j w))
    | inr other ↦ get_other (remove m k) j w q other ∙ get_left m k q else
        ∙ sym (get_left (insert m j w) k q else ∙ get_other m j w q other)
  ]
])

-- one more slot at the end
slot_none : (w x : ℕ) (m : Words) (k : ℕ) → w ≢ suc k → get (with_slot w x m) k ≡ get m k
slot_none zero x m k ne = refl
slot_none (suc j) x m k ne = get_other m j x k (omega (arith, ne))

slot_put : (w x : ℕ) (m : Words) (k v : ℕ) → w ≢ suc k →
    with_slot w x (insert m k v) ≡ insert (with_slot w x m) k v
slot_put zero x m k v ne = refl
slot_put (suc j) x m k v ne = swapped m k v j x (omega (arith, ne))

slot_removed : (w x : ℕ) (m : Words) (k : ℕ) → w ≢ suc k →
    with_slot w x (remove m k) ≡ remove (with_slot w x m) k
slot_removed zero x m k ne = refl
slot_removed (suc j) x m k ne = removed_first m k j x (omega (arith, ne))

slot_taken : (w x : ℕ) (m : Words) (k v : ℕ) → (w ≡ suc k) ⊎ (w ≡ 0) →
    insert m k v ≡ insert (with_slot w x m) k v
slot_taken w x m k v (inl is) = rw is (sym (twice m k x v))
slot_taken w x m k v (inr free) = rw free refl

slot_len : (w x : ℕ) (m : Words) → w ≢ 0 → ((k : ℕ) → w ≡ suc k → get m k ≡ None) →
    len (with_slot w x m) ≡ suc (len m)
slot_len zero x m some none = absurd (some refl)
slot_len (suc k) x m some none =
    let count = len-insert nat_cmp_total m k x in
    let new : len (insert m k x) ≡ len m + 1 =
    count ∙ ap (λ (o : Option ℕ). cond (is_some o) (len m) (len m + 1)) (none k refl) in
    omega (arith, new)

fewer : {n : ℕ} {f f' : ℕ → ℕ} {i w : ℕ} → IsSet (suc n) f f' i w → IsSet n f f' i w
fewer s = record { here = s.here; others = λ j less ne. s.others j (omega (arith, less)) ne }

same_slots : (key key' value value' : ℕ → ℕ) (n : ℕ) → ((j : ℕ) → j < n → key' j ≡ key j) →
    ((j : ℕ) → j < n → value' j ≡ value j) → map_in key' value' n ≡ map_in key value n
unfolding map_in
same_slots key key' value value' zero k v = refl
same_slots key key' value value' (suc n) k v =
    let a : key' n ≡ key n = k n (omega arith) in
    let b : value' n ≡ value n = v n (omega arith) in
    let rest = same_slots key key' value value' n (λ j less. k j (omega (arith, less)))
    (λ j less. v j (omega (arith, less))) in
    rw (a, b, rest) refl

set_slot : (key key' value value' : ℕ → ℕ) (n i k v : ℕ) → i < n → IsSet n key key' i (suc k) →
    IsSet n value value' i v → NoOther key n i (suc k) → (key i ≡ suc k) ⊎ (key i ≡ 0) →
    map_in key' value' n ≡ insert (map_in key value n) k v
unfolding map_in
set_slot key key' value value' zero i k v less ks vs alone place = absurd (omega (arith, less))
set_slot key key' value value' (suc n) i k v less ks vs alone place = elim (same_or i n) [
  | inl last ↦ (
      let a : key' n ≡ suc k = subst (λ (j : ℕ). key' j ≡ suc k) last ks.here in
      let b : value' n ≡ v = subst (λ (j : ℕ). value' j ≡ v) last vs.here in
      let rest = same_slots key key' value value' n
      (λ j l. ks.others j (omega (arith, l)) (omega (arith, l, last)))
      (λ j l. vs.others j (omega (arith, l)) (omega (arith, l, last))) in
      let spot = subst (λ (j : ℕ). (key j ≡ suc k) ⊎ (key j ≡ 0)) last place in
      rw (a, b, rest) (slot_taken (key n) (value n) (map_in key value n) k v spot))
  | inr before ↦ (
      let a : key' n ≡ key n = ks.others n (omega arith) (omega (arith, before)) in
      let b : value' n ≡ value n = vs.others n (omega arith) (omega (arith, before)) in
      let rest = set_slot key key' value value' n i k v (omega (arith, less, before))
      (fewer ks) (fewer vs) (λ j l ne. alone j (omega (arith, l)) ne) place in
      rw (a, b, rest) (slot_put (key n) (value n) (map_in key value n) k v
      (alone n (omega arith) (omega (arith, before)))))
]

no_slot : (key value : ℕ → ℕ) (n k : ℕ) → HasNoSlot key n (suc k)
    → get (map_in key value n) k ≡ None
unfolding map_in
no_slot key value zero k none = get-empty nat_cmp k
no_slot key value (suc n) k none =
    slot_none (key n) (value n) (map_in key value n) k (none n (omega arith))
    ∙ no_slot key value n k (λ j less. none j (omega (arith, less)))

free_slot : (key key' value value' : ℕ → ℕ) (n i k : ℕ) → i < n → IsSet n key key' i 0 →
    ((j : ℕ) → j < n → value' j ≡ value j) → NoOther key n i (suc k) → key i ≡ suc k →
    map_in key' value' n ≡ remove (map_in key value n) k
unfolding map_in
free_slot key key' value value' zero i k less ks vs alone is = absurd (omega (arith, less))
free_slot key key' value value' (suc n) i k less ks vs alone is = elim (same_or i n) [
  | inl last ↦ (
      let a : key' n ≡ 0 = subst (λ (j : ℕ). key' j ≡ 0) last ks.here in
      let b : key n ≡ suc k = subst (λ (j : ℕ). key j ≡ suc k) last is in
      let rest = same_slots key key' value value' n
      (λ j l. ks.others j (omega (arith, l)) (omega (arith, l, last)))
      (λ j l. vs j (omega (arith, l))) in
      let none = no_slot key value n k
      (λ j l. alone j (omega (arith, l)) (omega (arith, l, last))) in
      rw (a, b, rest) (sym (undone (map_in key value n) k (value n) none)))
  | inr before ↦ (
      let a : key' n ≡ key n = ks.others n (omega arith) (omega (arith, before)) in
      let b : value' n ≡ value n = vs n (omega arith) in
      let rest = free_slot key key' value value' n i k (omega (arith, less, before)) (fewer ks)
      (λ j l. vs j (omega (arith, l))) (λ j l ne. alone j (omega (arith, l)) ne) is in
      rw (a, b, rest) (slot_removed (key n) (value n) (map_in key value n) k
      (alone n (omega arith) (omega (arith, before)))))
]

-- a key is in at most one slot
alone_at : (key : ℕ → ℕ) (n i k : ℕ) → KeysAreApart key n → i < n → key i ≡ suc k →
    NoOther key n i (suc k)
alone_at key n i k apart less is = λ j l ne e.
    let free = apart j i l less ne (e ∙ sym is) in
    let never : suc k ≡ 0 = sym e ∙ free in omega (arith, never)

alone_in : (key : ℕ → ℕ) (n i k : ℕ) → KeysAreApart key n → IsPlace key n (suc k) i →
    NoOther key n i (suc k)
alone_in key n i k apart (less, inl is) = alone_at key n i k apart less is
alone_in key n i k apart (less, inr free) = λ j l ne. free.1 j l

taken_or_free : (key : ℕ → ℕ) (n i word : ℕ) → IsPlace key n word i → (key i ≡ word) ⊎ (key i ≡ 0)
taken_or_free key n i word (less, inl is) = inl is
taken_or_free key n i word (less, inr free) = inr free.0

next_number : (k : ℕ) → k + 1 ≡ suc k
next_number k = omega arith

-- writing a key and its value into the slot for the key is an insertion
pub put_in : (key key' value value' : ℕ → ℕ) (n i k v : ℕ) → KeysAreApart key n →
    IsPlace key n (k + 1) i → IsSet n key key' i (k + 1) → IsSet n value value' i v →
    map_in key' value' n ≡ insert (map_in key value n) k v
put_in key key' value value' n i k v apart place ks vs =
    let spot = rw (next_number k) at place in
    let set = rw (next_number k) at ks in
    set_slot key key' value value' n i k v spot.0 set vs (alone_in key n i k apart spot)
    (taken_or_free key n i (suc k) spot)

-- freeing a slot is a removal
pub freed_in : (key key' value value' : ℕ → ℕ) (n i k : ℕ) → KeysAreApart key n → i < n →
    key i ≡ k + 1 → IsSet n key key' i 0 → ((j : ℕ) → j < n → value' j ≡ value j) →
    map_in key' value' n ≡ remove (map_in key value n) k
freed_in key key' value value' n i k apart less is ks vs =
    let spot = is ∙ next_number k in
    free_slot key key' value value' n i k less ks vs (alone_at key n i k apart less spot) spot

-- the map has the value of a key that is in a slot
pub value_in : (key value : ℕ → ℕ) (n i k : ℕ) → KeysAreApart key n → i < n → key i ≡ k + 1 →
    get (map_in key value n) k ≡ Some (value i)
value_in key value n i k apart less is =
    let ks : IsSet n key key i (k + 1) = record { here = is; others = λ j l ne. refl } in
    let vs : IsSet n value value i (value i) = record { here = refl; others = λ j l ne. refl } in
    ap (λ (m : Words). get m k)
    (put_in key key value value n i k (value i) apart (less, inl is) ks vs)
    ∙ get_here (map_in key value n) k (value i)

-- a key that no slot has is not in the map
pub none_in : (key value : ℕ → ℕ) (n k : ℕ) → HasNoSlot key n (k + 1) →
    get (map_in key value n) k ≡ None
none_in key value n k none = no_slot key value n k (λ j l e. none j l (e ∙ sym (next_number k)))

-- if no slot is free, the map has as many entries as there are slots
pub full_in : (key value : ℕ → ℕ) (n : ℕ) → KeysAreApart key n → HasNoSlot key n 0 →
    len (map_in key value n) ≡ n
unfolding map_in
full_in key value zero apart none = len-empty nat_cmp ℕ
full_in key value (suc n) apart none =
    let rest = full_in key value n (λ i j l m. apart i j (omega (arith, l)) (omega (arith, m)))
    (λ j l. none j (omega (arith, l))) in
    slot_len (key n) (value n) (map_in key value n) (none n (omega arith))
    (λ k is. no_slot key value n k (λ j l.
    alone_at key (suc n) n k apart (omega arith) is j (omega (arith, l)) (omega (arith, l))))
    ∙ ap suc rest

counted : (o : Option ℕ) (n c : ℕ) → c ≡ cond (is_some o) n (n + 1) → c ≤ n + 1
counted None n c e = omega (arith, e)
counted (Some x) n c e = omega (arith, e)

slot_more : (w x : ℕ) (m : Words) → len (with_slot w x m) ≤ len m + 1
slot_more zero x m = omega arith
slot_more (suc k) x m = counted (get m k) (len m) _ (len-insert nat_cmp_total m k x)

-- the map has at most as many entries as there are slots
pub len_in : (key value : ℕ → ℕ) (n : ℕ) → len (map_in key value n) ≤ n
unfolding map_in
len_in key value zero = let none = len-empty nat_cmp ℕ in omega (arith, none)
len_in key value (suc n) =
    let rest = len_in key value n in
    let more = slot_more (key n) (value n) (map_in key value n) in
    omega (arith, rest, more)

-- the map has fewer entries than there are slots if a slot is free
pub room_in : (key value : ℕ → ℕ) (n i : ℕ) → i < n → key i ≡ 0 → len (map_in key value n) < n
unfolding map_in
room_in key value zero i less free = absurd (omega (arith, less))
room_in key value (suc n) i less free = elim (same_or i n) [
  | inl last ↦ (
      let here : key n ≡ 0 = subst (λ (j : ℕ). key j ≡ 0) last free in
      let rest = len_in key value n in
      rw here (omega (arith, rest)))
  | inr before ↦ (
      let rest = room_in key value n i (omega (arith, less, before)) free in
      let more = slot_more (key n) (value n) (map_in key value n) in
      omega (arith, rest, more))
]

-- the map is empty if all slots are free
pub empty_in : (key value : ℕ → ℕ) (n : ℕ) → ((j : ℕ) → j < n → key j ≡ 0) →
    map_in key value n ≡ empty
unfolding map_in
empty_in key value zero free = refl
empty_in key value (suc n) free =
    let here : key n ≡ 0 = free n (omega arith) in
    rw here (empty_in key value n (λ j l. free j (omega (arith, l))))

apart_set : (key key' : ℕ → ℕ) (n i w : ℕ) → KeysAreApart key n → IsSet n key key' i w →
    (w ≡ 0) ⊎ NoOther key n i w → KeysAreApart key' n
apart_set key key' n i w apart set (inl free) = λ a b l m ne e. elim (same_or a i) [
  | inl here ↦ rw here (set.here ∙ free)
  | inr else ↦ elim (same_or b i) [
    | inl here ↦ e ∙ rw here (set.here ∙ free)
    | inr other ↦ set.others a l else
        ∙ apart a b l m ne (sym (set.others a l else) ∙ (e ∙ set.others b m other))
  ]
]
apart_set key key' n i w apart set (inr alone) = λ a b l m ne e. elim (same_or a i) [
  | inl here ↦ (
      let other : b ≢ i = omega (arith, ne, here) in
      let is : key' a ≡ w = rw here set.here in
      absurd (alone b m other (sym (set.others b m other) ∙ (sym e ∙ is))))
  | inr else ↦ elim (same_or b i) [
    | inl here ↦ (
        let is : key' b ≡ w = rw here set.here in
        absurd (alone a l else (sym (set.others a l else) ∙ (e ∙ is))))
    | inr other ↦ set.others a l else
        ∙ apart a b l m ne (sym (set.others a l else) ∙ (e ∙ set.others b m other))
  ]
]

-- different slots keep different keys after a slot gets a key, and after a slot is freed
pub put_apart : (key key' : ℕ → ℕ) (n i k : ℕ) → KeysAreApart key n → IsPlace key n (k + 1) i →
    IsSet n key key' i (k + 1) → KeysAreApart key' n
put_apart key key' n i k apart place set =
    let spot = rw (next_number k) at place in
    apart_set key key' n i (suc k) apart (rw (next_number k) at set)
    (inr (alone_in key n i k apart spot))

pub freed_apart : (key key' : ℕ → ℕ) (n i : ℕ) → KeysAreApart key n → IsSet n key key' i 0 →
    KeysAreApart key' n
freed_apart key key' n i apart set = apart_set key key' n i 0 apart set (inl refl)

-- a search for a slot, if the key words are the first words of the memory, finds the place for the
-- word
pub place_in : (key : ℕ → ℕ) (n word i : ℕ) → IsSlot key 0 n word (Some i) → IsPlace key n word i
place_in key n word i (inl h) = (h.1, inl h.2)
place_in key n word i (inr h) = (h.1.1, inr (h.1.2, λ j less. h.0 j (omega arith) less))

-- a search for a word that finds nothing shows that no slot has the word
pub none_at : (key : ℕ → ℕ) (n word : ℕ) → IsFirstWithWord key 0 n word None → HasNoSlot key n word
none_at key n word h = λ j less. h j (omega arith) less

-- the value that the map has for a key, by the slot that is the place for the key
pub had_in : (key value : ℕ → ℕ) (n i k : ℕ) → KeysAreApart key n → IsPlace key n (k + 1) i →
    (key i ≡ k + 1 → get (map_in key value n) k ≡ Some (value i))
    × (key i ≢ k + 1 → get (map_in key value n) k ≡ None)
had_in key value n i k apart (less, inl is) =
    (λ e. value_in key value n i k apart less e, λ ne. absurd (ne is))
had_in key value n i k apart (less, inr free) = (
  λ e. (let never : 0 ≡ k + 1 = sym free.0 ∙ e in absurd (omega (arith, never))),
  λ ne. none_in key value n k free.1,
)

-- a store sets one of the words from b on
pub set_at : (xs : List ℕ) (b n i w : ℕ) → b + i < length xs →
    IsSet n (λ j. slice_index xs (b + j)) (λ j. slice_index (slice_set xs (b + i) w) (b + j)) i w
set_at xs b n i w less = record {
  here = get_or-set_same xs (b + i) w 0 less;
  others = λ j l ne. get_or-set_other xs (b + i) (b + j) w 0 (omega (arith, ne));
}
