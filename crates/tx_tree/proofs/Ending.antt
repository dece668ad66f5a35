-- From a place in a tree to the whole, and steps at a place given by sides.
use Rattle.std.proofs.Common.{◌≡◌, ℕ, ◌+◌, Bool, true, false, not, cond, ◌∙◌, subst}
use Rattle.tx_memory.specs.View.{IsWrite}
use Rattle.tx_alloc.specs.Rows.{Rows}
use Rattle.tx_tree.specs.Tree.{Tree, join, rows}
use Rattle.tx_tree.specs.Way.{Way, top, step, plug}
use Rattle.tx_tree.specs.Balance.{Sound}
use Rattle.tx_tree.specs.Hangs.{off, link_of, Zip, Touches, Turning}
use Rattle.tx_tree.specs.Mending.{Rising, IsMended}
use Rattle.tx_tree.proofs.Shapes.{even_plug, apart_plug}
use Rattle.tx_tree.proofs.Zipped.{up, down}
use Rattle.tx_tree.proofs.Writes.{touches_both, painted, turned}

pub up_all : (m : ℕ → ℕ) (n root : ℕ) (total : ℕ → ℕ) (w : Way) (t : Tree) → Zip m n root total w t →
    Zip m n root total top (plug w t)
up_all m n root total top t z = z
up_all m n root total (step right c r o w) t z = up_all m n root total w (join right c t r o)
    (up m n root total w right c t r o z)

pub ends_sound : (m m' : ℕ → ℕ) (n root : ℕ) (total : ℕ → ℕ) (w : Way) (t : Tree) (h : ℕ) (rs : Rows) →
    Zip m' n root total w t → Sound w t h → rows (plug w t) ≡ rs → Touches m m' root total →
    IsMended m m' n root total rs
ends_sound m m' n root total w t h rs z s is touches =
    let a = apart_plug w t s.apart s.fits in
    record {
      tree = plug w t;
      zip = up_all m' n root total w t z;
      even = even_plug w t h s.even s.way;
      apart = a.0;
      black = a.1;
      is = is;
      touches = touches;
    }

pub ends_after : (m m1 m' : ℕ → ℕ) (n root : ℕ) (total : ℕ → ℕ) (rs rs' : Rows) → Touches m m1 root total → rs ≡ rs' →
    IsMended m1 m' n root total rs → IsMended m m' n root total rs'
ends_after m m1 m' n root total rs rs' t e h = record {
  tree = h.tree;
  zip = h.zip;
  even = h.even;
  apart = h.apart;
  black = h.black;
  is = h.is ∙ e;
  touches =
      touches_both m m1 m' root total t h.touches;
}

-- the far side of a node, as a place
pub beside : (m : ℕ → ℕ) (n root : ℕ) (total : ℕ → ℕ) (w : Way) (right c : Bool) (near : Tree) (r : ℕ × ℕ) (far : Tree)
    → Zip m n root total w (join right c near r far) → Zip m n root total (step (not right) c r near w) far
beside m n root total w false c near r far z = down m n root total w true c far r near z
beside m n root total w true c near r far z = down m n root total w false c far r near z

pub back : (m : ℕ → ℕ) (n root : ℕ) (total : ℕ → ℕ) (w : Way) (right c : Bool) (near : Tree) (r : ℕ × ℕ) (far : Tree) →
    Zip m n root total (step (not right) c r near w) far → Zip m n root total w (join right c near r far)
back m n root total w false c near r far z = up m n root total w true c far r near z
back m n root total w true c near r far z = up m n root total w false c far r near z

pub painted_join : (m m' : ℕ → ℕ) (n root : ℕ) (total : ℕ → ℕ) (w : Way) (right c c' : Bool) (near : Tree) (k b : ℕ)
    (far : Tree) → Zip m n root total w (join right c near (k, b) far) → IsWrite m m' (b + 3) (cond c' 1 0) →
    Zip m' n root total w (join right c' near (k, b) far) × Touches m m' root total
painted_join m m' n root total w false c c' near k b far z write = painted m m' n root total w c c' near k b far z write
painted_join m m' n root total w true c c' near k b far z write = painted m m' n root total w c c' far k b near z write

-- the near child comes up, and both get colours
pub risen : (m m' : ℕ → ℕ) (n root : ℕ) (total : ℕ → ℕ) (w : Way) (right cp cc c1 c2 : Bool) (outer : Tree) (kc c : ℕ)
    (inner : Tree) (kp p : ℕ) (far : Tree) (link side v v' : ℕ) →
    Zip m n root total w (join right cp (join right cc outer (kc, c) inner) (kp, p) far) → link ≡ link_of root w →
    side ≡ off right → v ≡ cond c1 1 0 → v' ≡ cond c2 1 0 → Rising m m' link p c side v v'
    → Zip m' n root total w (join right c1 outer (kc, c) (join right c2 inner (kp, p) far)) × Touches m m' root total
risen m m' n root total w right cp cc c1 c2 outer kc c inner kp p far link side v v' z el es ev ev' r =
    let turning : Turning m r.m1 (link_of root w) p c (off right) =
    subst (λ (x : ℕ). Turning m r.m1 x p c (off right)) el
    (subst (λ (x : ℕ). Turning m r.m1 link p c x) es r.turning) in
    let a = turned m r.m1 n root total w right cp cc outer kc c inner kp p far z turning in
    let w1 : IsWrite r.m1 r.m2 (c + 3) (cond c1 1 0) = subst (λ (x : ℕ). IsWrite r.m1 r.m2 (c + 3) x) ev r.child in
    let w2 : IsWrite r.m2 m' (p + 3) (cond c2 1 0) = subst (λ (x : ℕ). IsWrite r.m2 m' (p + 3) x) ev' r.parent in
    let b = painted_join r.m1 r.m2 n root total w right cc c1 outer kc c (join right cp inner (kp, p) far) a.0 w1 in
    let lower = beside r.m2 n root total w right c1 outer (kc, c) (join right cp inner (kp, p) far) b.0 in
    let d = painted_join r.m2 m' n root total (step (not right) c1 (kc, c) outer w) right cp c2 inner kp p far lower w2
    in (
      back m' n root total w right c1 outer (kc, c) (join right c2 inner (kp, p) far) d.0,
      touches_both m r.m1 m' root total a.1 (touches_both r.m1 r.m2 m' root total b.1 d.1),
    )
