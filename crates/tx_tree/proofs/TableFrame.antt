-- What stands above a table knows of it: these lemmas, and nothing of its shape.
use Rattle.std.proofs.Common.{◌≡◌, ◌≢◌, inl, inr, ℕ, zero, suc, ◌+◌, ◌*◌, ◌<◌, ◌≤◌, ◌^◌, true, false, [], ◌∷◌, ◌++◌}
use Rattle.std.proofs.Common.{nat_eq, length, refl, sym, ap, ◌∙◌, subst, arith}
use Rattle.std.proofs.lemmas.Bool.Decides.{nat_tests}
use Rattle.std.proofs.Math.Pow.{pow_mono}
use Rattle.std.proofs.Math.Nat.{pow-suc, pow-zero}
use Rattle.tx_memory.specs.Seen.{same_or}
use Rattle.tx_alloc.specs.Pool.{IsBlock}
use Rattle.tx_alloc.specs.Rows.{Rows, times, block_at, SameLinks, IsFrom}
use Rattle.tx_tree.specs.Tree.{Tree, leaf, node, rows, height}
use Rattle.tx_tree.specs.Hangs.{Hangs}
use Rattle.tx_tree.specs.Table.{IsTable, Descends}
use Rattle.tx_tree.proofs.Shapes.{height_log}
use Rattle.tx_tree.proofs.Zipped.{hangs_frame, has_block}
use Rattle.tx_tree.proofs.Seeking.{has_times}

-- a memory with the same words 0 to 3 of the table's blocks has the same table
pub table_frame : (m m' : ℕ → ℕ) (n p : ℕ) (rs : Rows) → IsTable m n p rs →
    ((a : ℕ) → 0 < times a rs → SameLinks m m' a) → IsTable m' n p rs
table_frame m m' n p rs h same = record {
  tree = h.tree;
  hangs = hangs_frame m m' n p h.tree (λ a k i l. same a (omega (arith, i, has_times h.tree a, ap (times a) h.is)) k l)
      h.hangs;
  is = h.is;
  even = h.even;
  apart = h.apart;
  black = h.black;
  ascending = h.ascending;
  once = h.once;
}

pub table_block : (m : ℕ → ℕ) (n p a : ℕ) (rs : Rows) → IsTable m n p rs → 0 < times a rs → IsBlock n a
table_block m n p a rs h i = has_block m n p a h.tree h.hangs (omega (arith, i, has_times h.tree a, ap (times a) h.is))

-- each block has one row
pub table_once : (m : ℕ → ℕ) (n p a : ℕ) (rs : Rows) → IsTable m n p rs → times a rs ≤ 1
table_once m n p a rs h = h.once a

-- the keys rise from row to row
pub table_rises : (m : ℕ → ℕ) (n p : ℕ) (rs : Rows) → IsTable m n p rs → IsFrom 0 rs
table_rises m n p rs h = h.ascending

-- nothing hangs at 0
pub table_empty : (m : ℕ → ℕ) (n : ℕ) → IsTable m n 0 []
table_empty m n = record {
  tree = leaf;
  hangs = refl;
  is = refl;
  even = tt;
  apart = tt;
  black = refl;
  ascending = tt;
  once = λ x. omega arith;
}

none_at : (m : ℕ → ℕ) (n : ℕ) (rs : Rows) (t : Tree) → Hangs m n 0 t → rows t ≡ rs → rs ≡ []
none_at m n rs leaf h is = sym is
none_at m n rs (node c l (k, a) t) h is = absurd (omega (arith, h.0.at, h.0.block.1.1))

-- each row's block has the row's key as its first word
abbrev HaveKeys : (ℕ → ℕ) → Rows → Type 0
HaveKeys m [] = Unit {0}
HaveKeys m (r ∷ rs) = (m r.1 ≡ r.0) × HaveKeys m rs

keys_both : (m : ℕ → ℕ) (xs ys : Rows) → HaveKeys m xs → HaveKeys m ys → HaveKeys m (xs ++ ys)
keys_both m [] ys h g = g
keys_both m (x ∷ xs) ys h g = (h.0, keys_both m xs ys h.1 g)

tree_keys : (m : ℕ → ℕ) (n p : ℕ) (t : Tree) → Hangs m n p t → HaveKeys m (rows t)
tree_keys m n p leaf h = tt
tree_keys m n p (node c l (k, a) t) (i, (hl, ht)) = keys_both m (rows l) ((k, a) ∷ rows t)
    (tree_keys m n (m (a + 1)) l hl) (i.key, tree_keys m n (m (a + 2)) t ht)

-- a block that has a key which the table does not have is not in the table
keys_loose : (m : ℕ → ℕ) (key b : ℕ) (rs : Rows) → HaveKeys m rs → ((x : ℕ) → 0 < times x rs → x ≢ 0) → m b ≡ key →
    block_at rs key ≡ 0 → times b rs ≡ 0
keys_loose m key b [] h some is e = refl
keys_loose m key b (r ∷ rs) h some is e = elim (same_or r.0 key) [
  | inl same ↦ (
      let t : nat_eq r.0 key ≡ true = grind (arith, nat_tests) in
      let e' : r.1 ≡ 0 = rw t at e in
      let here : 0 < times r.1 (r ∷ rs) = grind (arith, nat_tests) in
      absurd (some r.1 here e'))
  | inr other ↦ (
      let t : nat_eq r.0 key ≡ false = grind (arith, nat_tests) in
      let e' : block_at rs key ≡ 0 = rw t at e in
      let ne : r.1 ≢ b = λ q. other (sym h.0 ∙ (ap m q ∙ is)) in
      let t' : nat_eq r.1 b ≡ false = grind (arith, nat_tests) in
      let i = keys_loose m key b rs h.1 (λ x l. some x (omega arith)) is e' in
      rw t' (omega (arith, i)))
]

pub table_loose : (m : ℕ → ℕ) (n p key b : ℕ) (rs : Rows) → IsTable m n p rs → m b ≡ key → block_at rs key ≡ 0 →
    times b rs ≡ 0
table_loose m n p key b rs h is e =
    keys_loose m key b rs (subst (λ (x : Rows). HaveKeys m x) h.is (tree_keys m n p h.tree h.hangs))
    (λ x i z. absurd (omega (arith, (table_block m n p x rs h i).1.1))) is e

descends_height : (m : ℕ → ℕ) (n p h : ℕ) (t : Tree) → Hangs m n p t → Descends m p h → h ≤ height t
descends_height m n p zero t g d = omega arith
descends_height m n p (suc h) leaf g d = absurd (d.0 g)
descends_height m n p (suc h) (node c l (k, a) t) (i, (gl, gt)) (ne, (side, ((low, high), d))) = elim (same_or side 1) [
  | inl one ↦ (
      let e : p + side ≡ a + 1 = omega (arith, i.at, one) in
      let d' : Descends m (m (a + 1)) h = rw e at d in
      let r = descends_height m n (m (a + 1)) h l gl d' in omega (arith, r))
  | inr two ↦ (
      let e : p + side ≡ a + 2 = omega (arith, i.at, two, low, high) in
      let d' : Descends m (m (a + 2)) h = rw e at d in
      let r = descends_height m n (m (a + 2)) h t gt d' in omega (arith, r))
]

square : (x : ℕ) → x ^ 2 ≡ x * x
square x =
    let one : x ^ 1 ≡ x = pow-suc x 0 ∙ (ap (λ (y : ℕ). y * x) (pow-zero x) ∙ omega arith) in
    pow-suc x 1 ∙ ap (λ (y : ℕ). y * x) one

-- no way down has more than h nodes, where 2 ^ h is at most the square of one more than the number of rows
pub table_height : (m : ℕ → ℕ) (n p h : ℕ) (rs : Rows) → IsTable m n p rs → Descends m p h → 2 ^ h ≤ (length rs + 1) ^ 2
table_height m n p h rs t d =
    let low = descends_height m n p h t.tree t.hangs d in
    let a : 2 ^ h ≤ 2 ^ height t.tree = pow_mono low in
    let b : 2 ^ height t.tree ≤ (length rs + 1) * (length rs + 1) =
    rw t.is at (height_log t.tree t.even t.apart t.black) in
    omega (arith, a, b, square (length rs + 1))
