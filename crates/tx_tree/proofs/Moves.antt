-- What inserting, unlinking and replacing a block make of a way and the tree at its end.
use Rattle.std.proofs.Common.{◌≡◌, ◌≢◌, inl, inr, ℕ, ◌+◌, ◌-◌, ◌<◌, ◌≤◌, Bool, true, not, [], ◌∷◌, refl, sym, ap, ◌∙◌}
use Rattle.std.proofs.Common.{subst, arith}
use Rattle.std.proofs.lemmas.Bool.Decides.{nat_tests}
use Rattle.tx_memory.specs.View.{IsWrite}
use Rattle.tx_memory.specs.Seen.{same_or}
use Rattle.tx_alloc.specs.Pool.{IsBlock, with_block}
use Rattle.tx_alloc.specs.Rows.{times}
use Rattle.tx_tree.specs.Tree.{Tree, leaf, node, join}
use Rattle.tx_tree.specs.Way.{Way}
use Rattle.tx_tree.specs.Hangs.{Hangs, has, off, link_of, way_has, Zip, Touches, without_block}
use Rattle.tx_tree.proofs.Zipped.{hangs_frame, has_block, joined, has_join, link_away, way_kept, way_away}
use Rattle.tx_tree.proofs.Writes.{touches_both, touch_block, touch_link, at_node, at_join}

pub block_count : (total : ℕ → ℕ) (b x : ℕ) → (x ≡ b → with_block total b x ≡ total x + 1) × (x ≢ b →
    with_block total b x ≡ total x)
block_count total b x = ((λ e. grind (arith, nat_tests)), (λ e. grind (arith, nat_tests)))

pub without_count : (total : ℕ → ℕ) (b x : ℕ) → (x ≡ b → without_block total b x ≡ total x - 1) × (x ≢ b →
    without_block total b x ≡ total x)
without_count total b x = ((λ e. grind (arith, nat_tests)), (λ e. grind (arith, nat_tests)))

pub recounted : (m : ℕ → ℕ) (n root : ℕ) (total total' : ℕ → ℕ) (w : Way) (t : Tree) → ((x : ℕ) → total x ≡ total' x) →
    Zip m n root total w t → Zip m n root total' w t
recounted m n root total total' w t same z = record {
  way = z.way;
  tree = z.tree;
  count = λ x. z.count x ∙ same x;
  once = λ x. omega (arith, z.once x, same x);
  low = z.low;
}

with_once : (total : ℕ → ℕ) (b : ℕ) → ((x : ℕ) → total x ≤ 1) → total b ≡ 0 → (x : ℕ) → with_block total b x ≤ 1
with_once total b once none x = elim (same_or x b) [
  | inl e ↦ (let c = (block_count total b x).0 e in let z : total x ≡ 0 = ap total e ∙ none in omega arith)
  | inr ne ↦ (let c = (block_count total b x).1 ne in omega (arith, once x))
]

-- a block that is in no place comes to a hole
pub hung : (m m1 m2 m3 m' : ℕ → ℕ) (n root : ℕ) (total : ℕ → ℕ) (w : Way) (key b : ℕ) → Zip m n root total w leaf →
    IsBlock n b → total b ≡ 0 → m b ≡ key
    → IsWrite m m1 (b + 1) 0 → IsWrite m1 m2 (b + 2) 0 → IsWrite m2 m3 (b + 3) 1 → IsWrite m3 m' (link_of root w) b →
    Zip m' n root (with_block total b) w (node true leaf (key, b) leaf) × Touches m m' root (with_block total b)
hung m m1 m2 m3 m' n root total w key b z block none is w1 w2 w3 w4 =
    let cb = z.count b in
    let not_above : way_has b w ≡ 0 = omega arith in
    let way_once : (x : ℕ) → way_has x w ≤ 1 = λ x. omega (arith, z.count x, z.once x) in
    let link : (j : ℕ) → j < 8 → link_of root w ≢ b + j = λ j l. link_away m n root w b j z.low z.way block not_above l
    in
    let l0 = link 0 (omega arith) in let l1 = link 1 (omega arith) in let l2 = link 2 (omega arith) in let l3 =
    link 3 (omega arith) in
    let keep : (x : ℕ) → x ≢ link_of root w → x ≢ b + 1 → x ≢ b + 2 → x ≢ b + 3 → m' x ≡ m x = λ x nl n1 n2 n3.
    w4.others x nl ∙ (w3.others x n3 ∙ (w2.others x n2 ∙ w1.others x n1)) in
    let all : (x : ℕ) → total x ≤ with_block total b x = λ x. omega arith in
    let here : 0 < with_block total b b = omega (arith, (block_count total b b).0 refl) in (
      record {
        way = way_kept m m' n root w z.low way_once z.way (λ x ne s.
            let away : (j : ℕ) → j < 8 → x ≢ b + j = λ j l. way_away m n root w b x j z.low z.way block not_above l s in
            keep x ne (away 1 (omega arith)) (away 2 (omega arith)) (away 3 (omega arith)));
        tree = (
          record {
            at = w4.here;
            block = block;
            key = keep b (omega arith) (omega arith) (omega arith) (omega
                arith) ∙ is;
            colour = w4.others (b + 3) (λ e. l3 (sym e)) ∙ w3.here;
          },
          (
            w4.others (b + 1) (λ e. l1 (sym e)) ∙ (w3.others (b + 1) (omega arith) ∙
                (w2.others (b + 1) (omega arith) ∙ w1.here)),
            w4.others (b + 2) (λ e. l2 (sym e)) ∙ (w3.others (b + 2) (omega arith) ∙ w2.here),
          ),
        );
        count = λ x. omega (arith, z.count x);
        once = with_once total b z.once none;
        low = z.low;
      },
      touches_both m m1 m' root (with_block total b) (touch_block m m1 root (with_block total b) b 1 0 w1 here
          (omega arith) (omega arith))
          (touches_both m1 m2 m' root (with_block total b) (touch_block m1 m2 root (with_block total b) b 2 0 w2 here
          (omega arith) (omega arith))
          (touches_both m2 m3 m' root (with_block total b) (touch_block m2 m3 root (with_block total b) b 3 1 w3 here
          (omega arith) (omega arith))
          (touch_link m3 m' root (with_block total b) w b w4 (λ x. omega (arith, z.count x, all x))))),
    )

-- a node with one side at most goes, and the other side takes its place
pub unlinked : (m m' : ℕ → ℕ) (n root : ℕ) (total : ℕ → ℕ) (w : Way) (right c : Bool) (k b : ℕ) (child : Tree) (v : ℕ) →
    Zip m n root total w (join right c leaf (k, b) child) → v ≡ m (b + off (not right)) →
    IsWrite m m' (link_of root w) v → Zip m' n root (without_block total b) w child × Touches m m' root total
unlinked m m' n root total w right c k b child v z is write =
    let a = at_join m n root total w right c leaf k b child z in
    let j = joined m n (m (link_of root w)) right c leaf (k, b) child z.tree in
    let count : (x : ℕ) → way_has x w + (times x ((k, b) ∷ []) + (0 + has x child)) ≡ total x =
    λ x. omega (arith, z.count x, has_join right c leaf (k, b) child x) in
    let counted : (x : ℕ) → way_has x w + has x child ≡ without_block total b x = λ x. omega (arith, count x) in (
      record {
        way = way_kept m m' n root w z.low a.way_once z.way (λ x ne s. write.others x ne);
        tree = rw (write.here, is) (hangs_frame m m' n (m (b + off (not right))) child (λ x i q lt.
            let xb = has_block m n (m (b + off (not right))) x child j.on_far q in
            write.others (x + i) (λ e. link_away m n root w x i z.low z.way xb (omega (arith, count x, z.once x))
            (omega arith) (sym e))) j.on_far);
        count = counted;
        once = λ x. omega (arith, z.once x);
        low = z.low;
      },
      touch_link m m' root total w v write (λ x. omega (arith, count x)),
    )

-- a block that is in no place takes the place of a node
pub replaced : (m m1 m2 m3 m' : ℕ → ℕ) (n root : ℕ) (total : ℕ → ℕ) (w : Way) (c : Bool) (l : Tree) (k a : ℕ) (t : Tree)
    (key b v1 v2 v3 : ℕ) → Zip m n root total w (node c l (k, a) t) → IsBlock n b → total b ≡ 0 → m b ≡ key
    → m (a + 1) ≡ v1 → IsWrite m m1 (b + 1) v1 → m1 (a + 2) ≡ v2 → IsWrite m1 m2 (b + 2) v2 → m2 (a + 3) ≡ v3 →
    IsWrite m2 m3 (b + 3) v3 → IsWrite m3 m' (link_of root w) b
    → Zip m' n root (without_block (with_block total b) a) w (node c l (key, b) t) ×
    Touches m m' root (with_block total b)
replaced m m1 m2 m3 m' n root total w c l k a t key b v1 v2 v3 z block none is e1 w1 e2 w2 e3 w3 w4 =
    let an = at_node m n root total w c l k a t z in
    let cb = z.count b in
    let not_above : way_has b w ≡ 0 = omega arith in
    let differ : a ≢ b = λ e. absurd (omega (arith, an.counted, none, ap total e)) in
    let bb = block.1.1 in let ab = an.block.1.1 in
    let link : (j : ℕ) → j < 8 → link_of root w ≢ b + j = λ j l. link_away m n root w b j z.low z.way block not_above l
    in
    let l0 = link 0 (omega arith) in let l1 = link 1 (omega arith) in let l2 = link 2 (omega arith) in let l3 =
    link 3 (omega arith) in
    let keep : (x : ℕ) → x ≢ link_of root w → x ≢ b + 1 → x ≢ b + 2 → x ≢ b + 3 → m' x ≡ m x = λ x nl n1 n2 n3.
    w4.others x nl ∙ (w3.others x n3 ∙ (w2.others x n2 ∙ w1.others x n1)) in
    let r2 : m (a + 2) ≡ v2 = sym (w1.others (a + 2) (omega arith)) ∙ e2 in
    let r3 : m (a + 3) ≡ v3 = sym (w1.others (a + 3) (omega arith)) ∙ (sym (w2.others (a + 3) (omega arith)) ∙ e3) in
    let all : (x : ℕ) → total x ≤ with_block total b x = λ x. omega arith in
    let here : 0 < with_block total b b = omega (arith, (block_count total b b).0 refl) in
    let sub : (s : Tree) (q : ℕ) → Hangs m n q s → ((x : ℕ) → has x s ≤ has x l + has x t) → Hangs m' n q s =
    λ s q h fits.
    hangs_frame m m' n q s (λ x j i lt.
    let xb = has_block m n q x s h i in
    let nx = z.count x in let ox = z.once x in let fx = fits x in
    let other : x ≢ b = λ e. absurd (omega (arith, none, ap total e)) in
    keep (x + j)
    (λ e. link_away m n root w x j z.low z.way xb (omega arith) (omega arith) (sym e))
    (omega (arith, xb.1.1)) (omega (arith, xb.1.1)) (omega (arith, xb.1.1))) h in (
      record {
        way = way_kept m m' n root w z.low an.way_once z.way (λ x ne s.
            let away : (j : ℕ) → j < 8 → x ≢ b + j = λ j l. way_away m n root w b x j z.low z.way block not_above l s in
            keep x ne (away 1 (omega arith)) (away 2 (omega arith)) (away 3 (omega arith)));
        tree = (
          record {
            at = w4.here;
            block = block;
            key = keep b (omega arith) (omega arith) (omega arith) (omega arith) ∙ is;
            colour = w4.others (b + 3) (λ e. l3 (sym e)) ∙ (w3.here ∙ (sym r3 ∙ z.tree.0.colour));
          },
          (
            rw (w4.others (b + 1) (λ e. l1 (sym e)) ∙ (w3.others (b + 1) (omega arith) ∙
                (w2.others (b + 1) (omega arith) ∙ (w1.here ∙ sym e1))))
                (sub l (m (a + 1)) z.tree.1.0 (λ x. omega arith)),
            rw (w4.others (b + 2) (λ e. l2 (sym e)) ∙ (w3.others (b + 2) (omega arith) ∙ (w2.here ∙ sym r2)))
                (sub t (m (a + 2)) z.tree.1.1 (λ x. omega arith)),
          ),
        );
        count = λ x. omega (arith, z.count x);
        once = λ x. omega (arith, with_once total b z.once none x);
        low = z.low;
      },
      touches_both m m1 m' root (with_block total b) (touch_block m m1 root (with_block total b) b 1 v1 w1 here
          (omega arith) (omega arith))
          (touches_both m1 m2 m' root (with_block total b) (touch_block m1 m2 root (with_block total b) b 2 v2 w2 here
          (omega arith) (omega arith))
          (touches_both m2 m3 m' root (with_block total b) (touch_block m2 m3 root (with_block total b) b 3 v3 w3 here
          (omega arith) (omega arith))
          (touch_link m3 m' root (with_block total b) w b w4 (λ x. omega (arith, z.count x, all x))))),
    )

-- what is at the hole, by the word that leads there
pub record Opened (m : ℕ → ℕ) (n p : ℕ) (t : Tree) : Type 0 where
  pub colour : Bool
  pub left : Tree
  pub right : Tree
  pub is : t ≡ node colour left (m p, p) right
  pub block : IsBlock n p

pub opened : (m : ℕ → ℕ) (n p : ℕ) (t : Tree) → Hangs m n p t → p ≢ 0 → Opened m n p t
opened m n p leaf h ne = absurd (ne h)
opened m n p (node c l (k, a) r) h ne =
    let at : a ≡ p = sym h.0.at in
    let key : k ≡ m p = sym h.0.key ∙ ap m at in
    record {
      colour = c;
      left = l;
      right = r;
      is = rw (at, key) refl;
      block = subst (λ (x : ℕ). IsBlock n x) at h.0.block;
    }

pub no_tree : (m : ℕ → ℕ) (n p : ℕ) (t : Tree) → Hangs m n p t → p ≡ 0 → t ≡ leaf
no_tree m n p leaf h e = refl
no_tree m n p (node c l (k, a) r) h e = absurd (omega (arith, h.0.at, h.0.block.1.1))

pub pointer : (m : ℕ → ℕ) (n p : ℕ) (t : Tree) → Hangs m n p t → p ≢ 0 → IsBlock n p
pointer m n p t h ne = (opened m n p t h ne).block
