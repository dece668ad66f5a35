-- What single writes make of a way and the tree at its end.
use Rattle.std.proofs.lemmas.Bool.Decides.{nat_tests}
use Rattle.std.proofs.Common.{◌≡◌, ◌≢◌, inl, inr, ℕ, ◌+◌, ◌-◌, ◌<◌, ◌≤◌, Bool, true, false, not, cond, [], ◌∷◌, refl}
use Rattle.std.proofs.Common.{sym, ap, ◌∙◌, subst, arith, add-zero}
use Rattle.tx_memory.specs.View.{IsWrite}
use Rattle.tx_alloc.specs.Pool.{IsBlock}
use Rattle.tx_alloc.specs.Rows.{times}
use Rattle.tx_tree.specs.Tree.{Tree, node, join}
use Rattle.tx_tree.specs.Way.{Way}
use Rattle.tx_tree.specs.Hangs.{Hangs, has, off, link_of, way_has, Zip, Touches, Turning}
use Rattle.tx_tree.proofs.Zipped.{off_range, off_across, one_self, hangs_frame, has_block, link_is, Joined, joined}
use Rattle.tx_tree.proofs.Zipped.{rejoined, has_join, link_away, way_kept, way_away}

pub touches_none : (m : ℕ → ℕ) (root : ℕ) (total : ℕ → ℕ) → Touches m m root total
touches_none m root total = record { others = λ x ne out. refl }

pub touches_both : (m m' m'' : ℕ → ℕ) (root : ℕ) (total : ℕ → ℕ) → Touches m m' root total → Touches m' m'' root total →
    Touches m m'' root total
touches_both m m' m'' root total t t' = record { others = λ x ne out. t'.others x ne out ∙ t.others x ne out }

pub touches_more : (m m' : ℕ → ℕ) (root : ℕ) (total total' : ℕ → ℕ) → ((x : ℕ) → total x ≤ total' x) →
    Touches m m' root total → Touches m m' root total'
touches_more m m' root total total' more t = grind (arith, nat_tests)

-- a write of a linking word
pub touch_block : (m m' : ℕ → ℕ) (root : ℕ) (total : ℕ → ℕ) (b j v : ℕ) → IsWrite m m' (b + j) v → 0 < total b → 1 ≤ j →
    j ≤ 3 → Touches m m' root total
touch_block m m' root total b j v w i l g = grind (arith, nat_tests)

pub touch_root : (m m' : ℕ → ℕ) (root : ℕ) (total : ℕ → ℕ) (v : ℕ) → IsWrite m m' root v → Touches m m' root total
touch_root m m' root total v w = record { others = λ x ne out. w.others x ne }

pub touch_link : (m m' : ℕ → ℕ) (root : ℕ) (total : ℕ → ℕ) (w : Way) (v : ℕ) → IsWrite m m' (link_of root w) v →
    ((x : ℕ) → way_has x w ≤ total x) → Touches m m' root total
touch_link m m' root total w v write all = grind (
  arith,
  nat_tests,
  link_is root w,
  touch_root m m' root total v,
  touch_block m m' root total,
)

-- facts of a node at the end of a way
pub record AtNode (m : ℕ → ℕ) (n root : ℕ) (total : ℕ → ℕ) (w : Way) (b : ℕ) : Type 0 where
  pub block : IsBlock n b
  pub not_above : way_has b w ≡ 0
  pub way_once : (x : ℕ) → way_has x w ≤ 1
  pub leads : m (link_of root w) ≡ b
  pub counted : total b ≡ 1

pub at_node : (m : ℕ → ℕ) (n root : ℕ) (total : ℕ → ℕ) (w : Way) (c : Bool) (l : Tree) (k b : ℕ) (t : Tree) →
    Zip m n root total w (node c l (k, b) t) → AtNode m n root total w b
at_node m n root total w c l k b t z = grind (arith, nat_tests, one_self k b b, z.count b, z.once b)

pub at_join : (m : ℕ → ℕ) (n root : ℕ) (total : ℕ → ℕ) (w : Way) (right c : Bool) (near : Tree) (k b : ℕ) (far : Tree) →
    Zip m n root total w (join right c near (k, b) far) → AtNode m n root total w b
at_join m n root total w false c near k b far z = at_node m n root total w c near k b far z
at_join m n root total w true c near k b far z = at_node m n root total w c far k b near z

-- a node gets a colour
pub painted : (m m' : ℕ → ℕ) (n root : ℕ) (total : ℕ → ℕ) (w : Way) (c c' : Bool) (l : Tree) (k b : ℕ) (t : Tree) →
    Zip m n root total w (node c l (k, b) t) → IsWrite m m' (b + 3) (cond c' 1 0) →
    Zip m' n root total w (node c' l (k, b) t) × Touches m m' root total
painted m m' n root total w c c' l k b t z write =
    let a = at_node m n root total w c l k b t z in
    let keep : (x : ℕ) → x ≢ b + 3 → m' x ≡ m x = write.others in
    let link = link_away m n root w b 3 z.low z.way a.block a.not_above (omega arith) in
    let sub : (s : Tree) (p : ℕ) → Hangs m n p s → ((x : ℕ) → has x s ≤ has x l + has x t) → Hangs m' n p s =
    λ s p h fits.
    hangs_frame m m' n p s (λ x j i lt.
    let xb = has_block m n p x s h i in
    keep (x + j) (λ e. let ne : x ≡ b = omega (arith, xb.1.1, a.block.1.1) in
    absurd (omega (arith, z.once x, z.count x, fits x, i, one_self k b x ne)))) h in (
      record {
        way = way_kept m m' n root w z.low a.way_once z.way (λ x ne s. keep x
            (way_away m n root w b x 3 z.low z.way a.block a.not_above (omega arith) s));
        tree = (
          record {
            at = keep (link_of root w) link ∙ z.tree.0.at;
            block = z.tree.0.block;
            key = keep b (omega arith) ∙ z.tree.0.key;
            colour = write.here;
          },
          (
            rw (keep (b + 1) (omega arith)) (sub l (m (b + 1)) z.tree.1.0 (λ x. omega arith)),
            rw (keep (b + 2) (omega arith)) (sub t (m (b + 2)) z.tree.1.1 (λ x. omega arith)),
          ),
        );
        count = z.count;
        once = z.once;
        low = z.low;
      },
      touch_block m m' root total b 3 (cond c' 1 0) write (omega (arith, a.counted)) (omega arith) (omega arith),
    )

-- the near child comes up
pub turned : (m m' : ℕ → ℕ) (n root : ℕ) (total : ℕ → ℕ) (w : Way) (right cp cc : Bool) (outer : Tree) (kc c : ℕ)
    (inner : Tree) (kp p : ℕ) (far : Tree) → Zip m n root total w
    (join right cp (join right cc outer (kc, c) inner) (kp, p) far) → Turning m m' (link_of root w) p c (off right) →
    Zip m' n root total w (join right cc outer (kc, c) (join right cp inner (kp, p) far)) × Touches m m' root total
turned m m' n root total w right cp cc outer kc c inner kp p far z write =
    let a = at_join m n root total w right cp (join right cc outer (kc, c) inner) kp p far z in
    let jp = joined m n (m (link_of root w)) right cp (join right cc outer (kc, c) inner) (kp, p) far z.tree in
    let jc = joined m n (m (p + off right)) right cc outer (kc, c) inner jp.on_near in
    let count : (x : ℕ) → way_has x w + (times x ((kp, p) ∷ []) +
    ((times x ((kc, c) ∷ []) + (has x outer + has x inner)) + has x far)) ≡ total x = λ x.
    omega (
      arith,
      z.count x,
      has_join right cp (join right cc outer (kc, c) inner) (kp, p) far x,
      has_join right cc outer (kc, c) inner x,
    ) in
    let pb = jp.is_node.block in let cb = jc.is_node.block in
    let cc1 = count c in let oc = z.once c in let sc = one_self kc c c refl in
    let not_above : way_has c w ≡ 0 = omega arith in
    let differ : c ≢ p = λ e. absurd (omega (arith, one_self kp p c e)) in
    let across = off_across right in let bounds = off_range right in let bounds' = off_range (not right) in
    let out : c + (3 - off right) ≡ c + off (not right) = ap (λ (x : ℕ). c + x) across in
    let link_p : (j : ℕ) → j < 8 → link_of root w ≢ p + j = λ j l. link_away m n root w p j z.low z.way a.block
    a.not_above l in
    let link_c : (j : ℕ) → j < 8 → link_of root w ≢ c + j = λ j l. link_away m n root w c j z.low z.way cb not_above l
    in
    let keep : (x : ℕ) → x ≢ link_of root w → x ≢ p + off right → x ≢ c + off (not right) → m' x ≡ m x = λ x nl np nc.
    write.up.others x nl ∙ (write.outer.others x (omega arith) ∙ write.inner.others x np) in
    let is_link : m' (link_of root w) ≡ c = write.up.here in
    let is_p : m' (p + off right) ≡ m (c + off (not right)) =
    write.up.others (p + off right) (λ e. link_p (off right) (omega arith) (sym e)) ∙
    (write.outer.others (p + off right) (omega (arith, pb.1.1, cb.1.1)) ∙ (write.inner.here ∙ ap m out)) in
    let is_c : m' (c + off (not right)) ≡ p =
    write.up.others (c + off (not right)) (λ e. link_c (off (not right)) (omega arith) (sym e)) ∙
    (ap write.m2 (sym out) ∙ write.outer.here) in
    let keep_p : (j : ℕ) → j < 8 → j ≢ off right → m' (p + j) ≡ m (p + j) = λ j l ne.
    keep (p + j) (λ e. link_p j l (sym e)) (omega arith) (omega (arith, pb.1.1, cb.1.1)) in
    let keep_c : (j : ℕ) → j < 8 → j ≢ off (not right) → m' (c + j) ≡ m (c + j) = λ j l ne.
    keep (c + j) (λ e. link_c j l (sym e)) (omega (arith, pb.1.1, cb.1.1)) (omega arith) in
    let sub : (s : Tree) (q : ℕ) → Hangs m n q s → ((x : ℕ) → has x s ≤ has x outer + (has x inner + has x far)) →
    Hangs m' n q s = λ s q h fits.
    hangs_frame m m' n q s (λ x j i lt.
    let xb = has_block m n q x s h i in
    let nx = count x in let ox = z.once x in let fx = fits x in
    keep (x + j)
    (λ e. link_away m n root w x j z.low z.way xb (omega arith) (omega arith) (sym e))
    (λ e. let ne : x ≡ p = omega (arith, xb.1.1, pb.1.1) in absurd (omega (arith, one_self kp p x ne)))
    (λ e. let ne : x ≡ c = omega (arith, xb.1.1, cb.1.1) in absurd (omega (arith, one_self kc c x ne)))) h in
    let lower : Joined m' n p right cp inner (kp, p) far = record {
      is_node = record {
        at = refl;
        block = pb;
        key = rw add-zero at (keep_p 0 (omega arith) (omega arith)) ∙ jp.is_node.key;
        colour = keep_p 3 (omega arith) (omega arith) ∙ jp.is_node.colour;
      };
      on_near = rw is_p (sub inner (m (c + off (not right))) jc.on_far (λ x. omega arith));
      on_far = rw (keep_p (off (not right)) (omega arith) (omega arith))
          (sub far (m (p + off (not right))) jp.on_far (λ x. omega arith));
    } in
    let upper : Joined m' n (m' (link_of root w)) right cc outer (kc, c) (join right cp inner (kp, p) far) = record {
      is_node = record {
        at = is_link;
        block = cb;
        key = rw add-zero at (keep_c 0 (omega arith) (omega arith)) ∙ jc.is_node.key;
        colour = keep_c 3 (omega arith) (omega arith) ∙ jc.is_node.colour;
      };
      on_near = rw (keep_c (off right) (omega arith) (omega arith))
          (sub outer (m (c + off right)) jc.on_near (λ x. omega arith));
      on_far = rw is_c (rejoined m' n p right cp inner (kp, p) far lower);
    } in (
      record {
        way = way_kept m m' n root w z.low a.way_once z.way (λ x ne s.
            keep x ne (way_away m n root w p x (off right) z.low z.way pb a.not_above (omega arith) s)
            (way_away m n root w c x (off (not right)) z.low z.way cb not_above (omega arith) s));
        tree = rejoined m' n (m' (link_of root w)) right cc outer (kc, c) (join right cp inner (kp, p) far) upper;
        count = λ x. omega (
          arith,
          count x,
          has_join right cc outer (kc, c) (join right cp inner (kp, p) far) x,
          has_join right cp inner (kp, p) far x,
        );
        once = z.once;
        low = z.low;
      },
      touches_both m write.m1 m' root total
          (touch_block m write.m1 root total p (off right) (m (c + (3 - off right))) write.inner
          (omega (arith, a.counted)) (omega arith) (omega arith))
          (touches_both write.m1 write.m2 m' root total
          (touch_block write.m1 write.m2 root total c (3 - off right) p write.outer (omega arith) (omega arith)
          (omega arith))
          (touch_link write.m2 m' root total w c write.up (λ x. omega (arith, count x)))),
    )
