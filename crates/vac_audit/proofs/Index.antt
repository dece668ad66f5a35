-- The rows of tables that were walked, and the lists of their codes and blocks.
use Rattle.std.proofs.Common.{◌≡◌, ◌≢◌, ◌⊎◌, inl, inr, ℕ, ◌+◌, ◌*◌, ◌^◌, ◌<◌, ◌≤◌, Bool, true, false, cond, List, []}
use Rattle.std.proofs.Common.{◌∷◌, ◌++◌, length, zero, suc, refl, sym, ap, ◌∙◌, subst, arith, nat_eq}
use Rattle.std.specs.Prelude.{Ok, Err, not, slice_index}
use Rattle.std.specs.List.{All}
use Rattle.std.proofs.lemmas.Bool.Decides.{nat_tests}
use Rattle.std.proofs.lemmas.List.Elements.{All-nil, All-cons, All-append, All-map}
use Rattle.tx_memory.specs.Seen.{same_or}
use Rattle.tx_alloc.specs.Pool.{IsBlock}
use Rattle.tx_alloc.specs.Rows.{Rows, block_at}
use Rattle.vac_bookings.specs.Bookings.{key_code}
use Rattle.vac_audit.specs.Tree.{Tree, leaf, node, rows, is_red}
use Rattle.vac_audit.specs.Walk.{Seen, Look, above, is_key, is_coloured, walk_tree, walk_table}
use Rattle.vac_audit.specs.Noted.{AreRising, InOrder, codes_in, blocks_in, noted_of}
use Rattle.vac_audit.specs.Marks.{IsIndex}
use Rattle.vac_audit.specs.declared.notes.NotedItem.{NotedItem}
use Rattle.vac_audit.specs.declared.Flaw.TheVariants.{Shared, Order, Colour}
use Rattle.vac_audit.proofs.Noted.{codes_append, blocks_append, noted_none}
use Rattle.vac_audit.proofs.Steps.{both_ok, test_ok, enter_ok}
use Rattle.vac_audit.proofs.Walks.{tables_of}

-- the codes and the blocks of rows
abbrev pub codes_of : ℕ → Rows → List ℕ
codes_of kind rs = codes_in (noted_of kind rs)

abbrev pub blocks_of : ℕ → Rows → List ℕ
blocks_of kind rs = blocks_in (noted_of kind rs)

-- keys that ascend from lo on and fit 32 bits, with blocks
abbrev pub GoodRows : ℕ → ℕ → Rows → Type 0
GoodRows n lo [] = Unit {0}
GoodRows n lo (r ∷ rs) = (lo ≤ r.0) × (r.0 < 4294967296) × IsBlock n r.1 × GoodRows n (r.0 + 1) rs

good_append : (n lo : ℕ) (rs ts : Rows) → GoodRows n lo rs → GoodRows n (above lo rs) ts → GoodRows n lo (rs ++ ts)
good_append n lo [] ts h k = k
good_append n lo (r ∷ rs) ts h k = (h.0, h.1, h.2, good_append n (r.0 + 1) rs ts h.3 k)

key_low : (m : ℕ → ℕ) (p lo : ℕ) → is_key m p lo ≡ true → lo ≤ m p
key_low m p lo e = grind (arith, nat_tests)

key_high : (m : ℕ → ℕ) (p lo : ℕ) → is_key m p lo ≡ true → m p < 4294967296
key_high m p lo e = grind (arith, nat_tests)

module _ (m : ℕ → ℕ) (n : ℕ) (look : Look) where
  tree_good : (levels a lo : ℕ) (s : Seen) (x : Tree × Seen) → walk_tree m n look levels a lo s ≡ Ok x →
      GoodRows n lo (rows x.0)
  tree_good zero a lo s x e = absurd (let q : Err (Shared a) ≡ Ok x = e in cc)
  tree_good (suc levels) a lo s x e = enter_ok _ m n a s.blocks _ _ x e
      (λ z q. let r : (leaf, s) ≡ x = cc in subst (λ (y : Tree × Seen). GoodRows n lo (rows y.0)) r tt)
      (λ p h q. both_ok _ (walk_tree m n look levels (p + 1) lo (record s { blocks = p ∷ s.blocks })) _ x q (λ l el q1.
      test_ok _ (is_key m p (above lo (rows l.0))) (Order p) _ x q1 (λ ek q2.
      both_ok _ (look p l.1) _ x q2 (λ s3 es q3.
      both_ok _ (walk_tree m n look levels (p + 2) (m p + 1) s3) _ x q3 (λ t et q4.
      test_ok _ (is_coloured (m (p + 3)) l.0 t.0) (Colour (p + 3)) _ x q4 (λ ec q5.
      let r : (node (nat_eq (m (p + 3)) 1) l.0 (m p, p) t.0, t.1) ≡ x = cc in
      subst (λ (y : Tree × Seen). GoodRows n lo (rows y.0)) r
      (good_append n lo (rows l.0) ((m p, p) ∷ rows t.0) (tree_good levels (p + 1) lo _ l el)
      (key_low m p _ ek, key_high m p _ ek, h.block, tree_good levels (p + 2) (m p + 1) s3 t et))))))))

  pub table_good : (levels root : ℕ) (s : Seen) (x : Rows × Seen) → walk_table m n look levels root s ≡ Ok x →
      GoodRows n 1 x.0
  table_good levels root s x e = both_ok _ (walk_tree m n look levels root 1 s) _ x e (λ t f q.
      test_ok _ (not (is_red t.0)) (Colour (m root + 3)) _ x q (λ b q1.
      let r : (rows t.0, t.1) ≡ x = cc in
      subst (λ (y : Rows × Seen). GoodRows n 1 y.0) r (tree_good levels root 1 s t f)))

-- numbers that ascend from lo on
abbrev Climbs : ℕ → List ℕ → Type 0
Climbs lo [] = Unit {0}
Climbs lo (x ∷ xs) = (lo ≤ x) × Climbs (x + 1) xs

abbrev Below : ℕ → List ℕ → Type 0
Below b [] = Unit {0}
Below b (x ∷ xs) = (x < b) × Below b xs

climbs_less : (lo lo' : ℕ) (xs : List ℕ) → lo' ≤ lo → Climbs lo xs → Climbs lo' xs
climbs_less lo lo' [] l h = tt
climbs_less lo lo' (x ∷ xs) l h = (omega (arith, h.0), h.1)

below_less : (b b' : ℕ) (xs : List ℕ) → b ≤ b' → Below b xs → Below b' xs
below_less b b' [] l h = tt
below_less b b' (x ∷ xs) l h = (omega (arith, h.0), below_less b b' xs l h.1)

below_append : (b : ℕ) (xs ys : List ℕ) → Below b xs → Below b ys → Below b (xs ++ ys)
below_append b [] ys h k = k
below_append b (x ∷ xs) ys h k = (h.0, below_append b xs ys h.1 k)

climbs_append : (lo b : ℕ) (xs ys : List ℕ) → Climbs lo xs → Below b xs → lo ≤ b → Climbs b ys → Climbs lo (xs ++ ys)
climbs_append lo b [] ys h k l j = climbs_less b lo ys l j
climbs_append lo b (x ∷ xs) ys h k l j = (h.0, climbs_append (x + 1) b xs ys h.1 k.1 (omega (arith, k.0)) j)

climbs_at : (lo : ℕ) (xs : List ℕ) (i : ℕ) → Climbs lo xs → i < length xs → lo ≤ slice_index xs i
climbs_at lo [] i h l = absurd (omega arith)
climbs_at lo (x ∷ xs) zero h l = h.0
climbs_at lo (x ∷ xs) (suc i) h l = omega (arith, h.0, climbs_at (x + 1) xs i h.1 (omega arith))

climbs_rising : (lo : ℕ) (xs : List ℕ) → Climbs lo xs → AreRising xs
climbs_rising lo [] h i j l k = absurd (omega arith)
climbs_rising lo (x ∷ xs) h i zero l k = absurd (omega arith)
climbs_rising lo (x ∷ xs) h zero (suc j) l k = omega (arith, climbs_at (x + 1) xs j h.1 (omega arith))
climbs_rising lo (x ∷ xs) h (suc i) (suc j) l k = climbs_rising (x + 1) xs h.1 i j (omega arith) (omega arith)

codes_climb : (n lo kind : ℕ) (rs : Rows) → GoodRows n lo rs → Climbs (kind * 4294967296 + lo) (codes_of kind rs)
codes_climb n lo kind [] h = tt
codes_climb n lo kind (r ∷ rs) h = (
  omega (arith, h.0),
  climbs_less (kind * 4294967296 + (r.0 + 1))
      (key_code kind r.0 + 1) (codes_of kind rs) (omega arith) (codes_climb n (r.0 + 1) kind rs h.3),
)

codes_below : (n lo kind : ℕ) (rs : Rows) → GoodRows n lo rs → Below ((kind + 1) * 4294967296) (codes_of kind rs)
codes_below n lo kind [] h = tt
codes_below n lo kind (r ∷ rs) h = (omega (arith, h.1), codes_below n (r.0 + 1) kind rs h.3)

-- a member of a list
abbrev In : ℕ → List ℕ → Type 0
In k [] = ⊥
In k (x ∷ xs) = (x ≡ k) ⊎ In k xs

in_left : (k : ℕ) (xs ys : List ℕ) → In k xs → In k (xs ++ ys)
in_left k [] ys h = absurd h
in_left k (x ∷ xs) ys (inl e) = inl e
in_left k (x ∷ xs) ys (inr h) = inr (in_left k xs ys h)

in_right : (k : ℕ) (xs ys : List ℕ) → In k ys → In k (xs ++ ys)
in_right k [] ys h = h
in_right k (x ∷ xs) ys h = inr (in_right k xs ys h)

in_split : (k : ℕ) (xs ys : List ℕ) → In k (xs ++ ys) → In k xs ⊎ In k ys
in_split k [] ys h = inr h
in_split k (x ∷ xs) ys (inl e) = inl (inl e)
in_split k (x ∷ xs) ys (inr h) = elim (in_split k xs ys h) [
  | inl a ↦ inl (inr a)
  | inr b ↦ inr b
]

in_index : (k : ℕ) (xs : List ℕ) → In k xs → (i : ℕ) × ((i < length xs) × (slice_index xs i ≡ k))
in_index k [] h = absurd h
in_index k (x ∷ xs) (inl e) = (0, (omega arith, e))
in_index k (x ∷ xs) (inr h) = let w = in_index k xs h in (suc w.0, (omega (arith, w.1.0), w.1.1))

index_in : (k : ℕ) (xs : List ℕ) (i : ℕ) → i < length xs → slice_index xs i ≡ k → In k xs
index_in k [] i l e = absurd (omega arith)
index_in k (x ∷ xs) zero l e = inl e
index_in k (x ∷ xs) (suc i) l e = inr (index_in k xs i (omega arith) e)

rows_in : (kind id : ℕ) (rs : Rows) → block_at rs id ≢ 0 → In (key_code kind id) (codes_of kind rs)
rows_in kind id [] ne = absurd (ne refl)
rows_in kind id (r ∷ rs) ne = elim (same_or r.0 id) [
  | inl e ↦ inl (ap (λ (z : ℕ). key_code kind z) e)
  | inr other ↦ (
      let t : nat_eq r.0 id ≡ false = grind (arith, nat_tests) in
      inr (rows_in kind id rs (λ z. ne (ap (λ (b : Bool). cond b r.1 (block_at rs id)) t ∙ z))))
]

block_some : (n p : ℕ) → IsBlock n p → p ≢ 0
block_some n p h e = absurd (omega (arith, e, h.1.1))

at_some : (n id : ℕ) (r : ℕ × ℕ) (rs : Rows) → IsBlock n r.1 → ((r.0 ≡ id) ⊎ (block_at rs id ≢ 0)) →
    block_at (r ∷ rs) id ≢ 0
at_some n id r rs b h e = elim (same_or r.0 id) [
  | inl q ↦ (
      let t : nat_eq r.0 id ≡ true = grind (arith, nat_tests) in
      block_some n r.1 b (sym (ap (λ (z : Bool). cond z r.1 (block_at rs id)) t) ∙ e))
  | inr ne ↦ (
      let t : nat_eq r.0 id ≡ false = grind (arith, nat_tests) in
      elim h [
        | inl q ↦ absurd (ne q)
        | inr some ↦ some (sym (ap (λ (z : Bool). cond z r.1 (block_at rs id)) t) ∙ e)
      ])
]

in_rows : (n lo kind kind' id : ℕ) (rs : Rows) → GoodRows n lo rs → id < 4294967296 →
    In (key_code kind' id) (codes_of kind rs) → (kind ≡ kind') × (block_at rs id ≢ 0)
in_rows n lo kind kind' id [] h l w = absurd w
in_rows n lo kind kind' id (r ∷ rs) h l (inl e) =
    let key : r.0 ≡ id = omega (arith, h.1, e) in
    (omega (arith, h.1, e), at_some n id r rs h.2 (inl key))
in_rows n lo kind kind' id (r ∷ rs) h l (inr w) =
    let v = in_rows n (r.0 + 1) kind kind' id rs h.3 l w in
    (v.0, at_some n id r rs h.2 (inr v.1))

noted_short : (n lo kind : ℕ) (rs : Rows) → GoodRows n lo rs → All (λ item. item.key.id < 2 ^ 32) (noted_of kind rs)
noted_short n lo kind [] h = All-nil (λ (item : NotedItem). item.key.id < 2 ^ 32)
noted_short n lo kind (r ∷ rs) h = All-cons (λ (item : NotedItem). item.key.id < 2 ^ 32) _ (noted_of kind rs) h.1
    (noted_short n (r.0 + 1) kind rs h.3)

noted_inside : (n lo kind : ℕ) (rs : Rows) → GoodRows n lo rs → All (λ item. item.block + 8 ≤ n) (noted_of kind rs)
noted_inside n lo kind [] h = All-nil (λ (item : NotedItem). item.block + 8 ≤ n)
noted_inside n lo kind (r ∷ rs) h = All-cons (λ (item : NotedItem). item.block + 8 ≤ n) _ (noted_of kind rs)
    (omega (arith, h.2.1.0)) (noted_inside n (r.0 + 1) kind rs h.3)

-- three tables of items, as they were noted
module _ (a b c : Rows) where
  abbrev pub all_noted : List NotedItem
  all_noted = (noted_of 0 a ++ noted_of 1 b) ++ noted_of 2 c

  pub all_codes : codes_in all_noted ≡ (codes_of 0 a ++ codes_of 1 b) ++ codes_of 2 c
  all_codes = codes_append (noted_of 0 a ++ noted_of 1 b) (noted_of 2 c) ∙ ap (λ (z : List ℕ). z ++ codes_of 2 c)
      (codes_append (noted_of 0 a) (noted_of 1 b))

  pub all_blocks : blocks_in all_noted ≡ (blocks_of 0 a ++ blocks_of 1 b) ++ blocks_of 2 c
  all_blocks = blocks_append (noted_of 0 a ++ noted_of 1 b) (noted_of 2 c) ∙ ap (λ (z : List ℕ). z ++ blocks_of 2 c)
      (blocks_append (noted_of 0 a) (noted_of 1 b))

  all_of : (P : NotedItem → Type 0) → All P (noted_of 0 a) → All P (noted_of 1 b) → All P (noted_of 2 c) →
      All P all_noted
  all_of P ha hb hc = All-append P (noted_of 0 a ++ noted_of 1 b) (noted_of 2 c)
      (All-append P (noted_of 0 a) (noted_of 1 b) ha hb) hc

  pub all_none : All (λ item. item.booked ≡ 0) all_noted
  all_none = all_of (λ item. item.booked ≡ 0) (noted_none 0 a) (noted_none 1 b) (noted_none 2 c)

module _ (n : ℕ) (a b c : Rows) (ga : GoodRows n 1 a) (gb : GoodRows n 1 b) (gc : GoodRows n 1 c) where
  all_rising : AreRising ((codes_of 0 a ++ codes_of 1 b) ++ codes_of 2 c)
  all_rising = climbs_rising 0 ((codes_of 0 a ++ codes_of 1 b) ++ codes_of 2 c)
      (climbs_append 0 8589934592 (codes_of 0 a ++ codes_of 1 b) (codes_of 2 c)
      (climbs_append 0 4294967296 (codes_of 0 a) (codes_of 1 b)
      (climbs_less 1 0 (codes_of 0 a) (omega arith) (codes_climb n 1 0 a ga)) (codes_below n 1 0 a ga) (omega arith)
      (climbs_less 4294967297 4294967296 (codes_of 1 b) (omega arith) (codes_climb n 1 1 b gb)))
      (below_append 8589934592 (codes_of 0 a) (codes_of 1 b)
      (below_less 4294967296 8589934592 (codes_of 0 a) (omega arith) (codes_below n 1 0 a ga))
      (codes_below n 1 1 b gb))
      (omega arith) (climbs_less 8589934593 8589934592 (codes_of 2 c) (omega arith) (codes_climb n 1 2 c gc)))

  all_short : All (λ item. item.key.id < 2 ^ 32) (all_noted a b c)
  all_short = all_of a b c (λ item. item.key.id < 2 ^ 32) (noted_short n 1 0 a ga) (noted_short n 1 1 b gb)
      (noted_short n 1 2 c gc)

  pub all_order : InOrder (all_noted a b c)
  all_order = record {
    rising = subst AreRising (sym (all_codes a b c)) all_rising;
    ids = All-map (λ key. key.id < 2 ^ 32) (λ (item : NotedItem). item.key) (all_noted a b c) all_short;
  }

  pub all_inside : All (λ item. item.block + 8 ≤ n) (all_noted a b c)
  all_inside = all_of a b c (λ item. item.block + 8 ≤ n) (noted_inside n 1 0 a ga) (noted_inside n 1 1 b gb)
      (noted_inside n 1 2 c gc)

  there : (kind id : ℕ) → kind < 3 → block_at (tables_of a b c kind) id ≢ 0 →
      In (key_code kind id) ((codes_of 0 a ++ codes_of 1 b) ++ codes_of 2 c)
  there zero id l ne = in_left _ (codes_of 0 a ++ codes_of 1 b) (codes_of 2 c)
      (in_left _ (codes_of 0 a) (codes_of 1 b) (rows_in 0 id a ne))
  there (suc zero) id l ne = in_left _ (codes_of 0 a ++ codes_of 1 b) (codes_of 2 c)
      (in_right _ (codes_of 0 a) (codes_of 1 b) (rows_in 1 id b ne))
  there (suc (suc zero)) id l ne = in_right _ (codes_of 0 a ++ codes_of 1 b) (codes_of 2 c) (rows_in 2 id c ne)
  there (suc (suc (suc k))) id l ne = absurd (omega arith)

  back : (kind id : ℕ) → id < 4294967296 → In (key_code kind id) ((codes_of 0 a ++ codes_of 1 b) ++ codes_of 2 c) →
      block_at (tables_of a b c kind) id ≢ 0
  back kind id l h = elim (in_split _ (codes_of 0 a ++ codes_of 1 b) (codes_of 2 c) h) [
    | inl w ↦ elim (in_split _ (codes_of 0 a) (codes_of 1 b) w) [
      | inl u ↦ (let v = in_rows n 1 0 kind id a ga l u in subst
          (λ (z : ℕ). block_at (tables_of a b c z) id ≢ 0) v.0 v.1)
      | inr u ↦ (let v = in_rows n 1 1 kind id b gb l u in subst
          (λ (z : ℕ). block_at (tables_of a b c z) id ≢ 0) v.0 v.1)
    ]
    | inr u ↦ (let v = in_rows n 1 2 kind id c gc l u in subst (λ (z : ℕ). block_at (tables_of a b c z) id ≢ 0) v.0 v.1)
  ]

  pub all_index : IsIndex ((codes_of 0 a ++ codes_of 1 b) ++ codes_of 2 c) (tables_of a b c)
  all_index = record {
    there = λ kind id k w ne. in_index _ _ (there kind id k ne);
    back = λ kind id i k w l e. back kind id w (index_in _ _ i l e);
  }
