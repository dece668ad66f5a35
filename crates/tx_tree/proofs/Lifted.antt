-- A tree that lacks a black node: the steps, in one memory.
use Rattle.std.proofs.Common.{◌≡◌, ◌≢◌, ℕ, ◌+◌, ◌-◌, Bool, true, false, not, cond, refl, sym, ap, ◌∙◌, subst, arith}
use Rattle.std.proofs.Common.{append_assoc}
use Rattle.tx_memory.specs.View.{IsWrite}
use Rattle.tx_alloc.specs.Pool.{IsBlock}
use Rattle.tx_tree.specs.Tree.{Tree, leaf, node, join, rows, is_red}
use Rattle.tx_tree.specs.Way.{Way, step, plug}
use Rattle.tx_tree.specs.Balance.{Short}
use Rattle.tx_tree.specs.Hangs.{Hangs, off, Zip, Turning}
use Rattle.tx_tree.specs.Mending.{Rising, IsMended}
use Rattle.tx_tree.specs.Lifting.{LiftAt, ShortHere}
use Rattle.tx_tree.proofs.Shapes.{plug_rows}
use Rattle.tx_tree.proofs.Mends.{rows_swap, mend_outer, mend_inner, mend_red_above, mend_black_above}
use Rattle.tx_tree.proofs.Zipped.{off_across, up, down}
use Rattle.tx_tree.proofs.Writes.{touches_both, painted, turned}
use Rattle.tx_tree.proofs.Ending.{ends_sound, beside, back, painted_join, risen}
use Rattle.tx_tree.proofs.Raised.{not_red, RedNode, red_node}

absurd_red : {A : Type 0} → true ≡ false → A
absurd_red e = cc

-- beside a tree that lacks a black node stands a node
pub record Beside (m : ℕ → ℕ) (n q : ℕ) (right : Bool) (o : Tree) : Type 0 where
  pub colour : Bool
  pub inner : Tree
  pub key : ℕ
  pub outer : Tree
  pub is : o ≡ join right colour inner (key, q) outer
  pub block : IsBlock n q
  pub on_inner : Hangs m n (m (q + off right)) inner
  pub on_outer : Hangs m n (m (q + off (not right))) outer
  pub colour_is : m (q + 3) ≡ cond colour 1 0

pub beside_node : (m : ℕ → ℕ) (n root : ℕ) (total : ℕ → ℕ) (w : Way) (right c : Bool) (k p q : ℕ) (o t : Tree) (h : ℕ) →
    Zip m n root total (step right c (k, p) o w) t → m (p + off (not right)) ≡ q → Short (step right c (k, p) o w) t h →
    Beside m n q right o
beside_node m n root total w right c k p q leaf t h z e s = absurd (omega (arith, s.way.0.1))
beside_node m n root total w false c k p q (node d l (kq, q') r) t h z e s =
    let i = z.way.1.0 in
    let at : q' ≡ q = sym i.0.at ∙ e in
    record {
      colour = d;
      inner = l;
      key = kq;
      outer = r;
      is = rw at refl;
      block = subst (λ (x : ℕ). IsBlock n x) at i.0.block;
      on_inner = rw at at i.1.0;
      on_outer = rw at at i.1.1;
      colour_is = rw at at i.0.colour;
    }
beside_node m n root total w true c k p q (node d l (kq, q') r) t h z e s =
    let i = z.way.1.0 in
    let at : q' ≡ q = sym i.0.at ∙ e in
    record {
      colour = d;
      inner = r;
      key = kq;
      outer = l;
      is = rw at refl;
      block = subst (λ (x : ℕ). IsBlock n x) at i.0.block;
      on_inner = rw at at i.1.1;
      on_outer = rw at at i.1.0;
      colour_is = rw at at i.0.colour;
    }

outer_at : (m m1 m' : ℕ → ℕ) (n root : ℕ) (total : ℕ → ℕ) (link p q side : ℕ) (w : Way) (right c : Bool) (k : ℕ)
    (inner : Tree) (kq : ℕ) (a : Tree) (kz z : ℕ) (b t : Tree) (h far v : ℕ) →
    LiftAt m n root total link p q side w right c k (join right false inner (kq, q) (node true a (kz, z) b)) t h
    → far ≡ off (not right) → v ≡ cond c 1 0 → Rising m m1 link p q far v 0 → IsWrite m1 m' (z + 3) 0 →
    IsMended m m' n root total (rows (plug (step right c (k, p)
    (join right false inner (kq, q) (node true a (kz, z) b)) w) t))
outer_at m m1 m' n root total link p q side w false c k inner kq a kz z b t h far v at e ev rise write =
    let z1 : Zip m n root total w (node c t (k, p) (node false inner (kq, q) (node true a (kz, z) b))) =
    up m n root total w false c t (k, p) (node false inner (kq, q) (node true a (kz, z) b)) at.zip in
    let x = risen m m1 n root total w true c false c false (node true a (kz, z) b) kq q inner k p t link far v 0 z1
    at.link_is e ev refl rise in
    let z2 = down m1 n root total w true c (node true a (kz, z) b) (kq, q) (node false t (k, p) inner) x.0 in
    let y = painted m1 m' n root total (step true c (kq, q) (node false t (k, p) inner) w) true false a kz z b z2 write
    in
    let z3 = up m' n root total w true c (node false a (kz, z) b) (kq, q) (node false t (k, p) inner) y.0 in
    let is : rows (plug w (node c (node false t (k, p) inner) (kq, q) (node false a (kz, z) b))) ≡ rows
    (plug w (node c t (k, p) (node false inner (kq, q) (node true a (kz, z) b)))) =
    plug_rows w (node c t (k, p) (node false inner (kq, q) (node true a (kz, z) b)))
    (node c (node false t (k, p) inner) (kq, q) (node false a (kz, z) b)) (simp append_assoc) in
    ends_sound m m' n root total w (node c (node false t (k, p) inner) (kq, q) (node false a (kz, z) b))
    (h + 1 + cond c 0 1) (rows (plug w (node c t (k, p) (node false inner (kq, q) (node true a (kz, z) b))))) z3
    (mend_outer false c (k, p) inner (kq, q) a (kz, z) b w t h at.short) is
    (touches_both m m1 m' root total x.1 y.1)
outer_at m m1 m' n root total link p q side w true c k inner kq a kz z b t h far v at e ev rise write =
    let z1 : Zip m n root total w (node c (node false (node true a (kz, z) b) (kq, q) inner) (k, p) t) =
    up m n root total w true c t (k, p) (node false (node true a (kz, z) b) (kq, q) inner) at.zip in
    let x = risen m m1 n root total w false c false c false (node true a (kz, z) b) kq q inner k p t link far v 0 z1
    at.link_is e ev refl rise in
    let z2 = down m1 n root total w false c (node true a (kz, z) b) (kq, q) (node false inner (k, p) t) x.0 in
    let y = painted m1 m' n root total (step false c (kq, q) (node false inner (k, p) t) w) true false a kz z b z2 write
    in
    let z3 = up m' n root total w false c (node false a (kz, z) b) (kq, q) (node false inner (k, p) t) y.0 in
    let is : rows (plug w (node c (node false a (kz, z) b) (kq, q) (node false inner (k, p) t))) ≡ rows
    (plug w (node c (node false (node true a (kz, z) b) (kq, q) inner) (k, p) t)) =
    plug_rows w (node c (node false (node true a (kz, z) b) (kq, q) inner) (k, p) t)
    (node c (node false a (kz, z) b) (kq, q) (node false inner (k, p) t)) (simp append_assoc) in
    ends_sound m m' n root total w (node c (node false a (kz, z) b) (kq, q) (node false inner (k, p) t))
    (h + 1 + cond c 0 1) (rows (plug w (node c (node false (node true a (kz, z) b) (kq, q) inner) (k, p) t))) z3
    (mend_outer true c (k, p) inner (kq, q) a (kz, z) b w t h at.short) is (touches_both m m1 m' root total x.1 y.1)

inner_at : (m m1 m' : ℕ → ℕ) (n root : ℕ) (total : ℕ → ℕ) (link p q side : ℕ) (w : Way) (right c : Bool) (k : ℕ)
    (a : Tree) (ki i : ℕ) (b : Tree) (kq : ℕ) (outer t : Tree) (h far v link1 : ℕ) →
    LiftAt m n root total link p q side w right c k (join right false (join right true a (ki, i) b) (kq, q) outer) t h
    → far ≡ off (not right) → v ≡ cond c 1 0 → link1 ≡ p + off (not right) → Turning m m1 link1 q i side →
    Rising m1 m' link p i far v 0 → IsMended m m' n root total
    (rows (plug (step right c (k, p) (join right false (join right true a (ki, i) b) (kq, q) outer) w) t))
inner_at m m1 m' n root total link p q side w false c k a ki i b kq outer t h far v link1 at e ev el turn rise =
    let turn' : Turning m m1 (p + 2) q i 1 = subst (λ (x : ℕ). Turning m m1 x q i 1) el
    (subst (λ (x : ℕ). Turning m m1 link1 q i x) at.side_is turn) in
    let z1 : Zip m n root total w (node c t (k, p) (node false (node true a (ki, i) b) (kq, q) outer)) =
    up m n root total w false c t (k, p) (node false (node true a (ki, i) b) (kq, q) outer) at.zip in
    let z2 : Zip m n root total (step true c (k, p) t w) (node false (node true a (ki, i) b) (kq, q) outer) =
    down m n root total w true c (node false (node true a (ki, i) b) (kq, q) outer) (k, p) t z1 in
    let x = turned m m1 n root total (step true c (k, p) t w) false false true a ki i b kq q outer z2 turn' in
    let z3 : Zip m1 n root total w (node c t (k, p) (node true a (ki, i) (node false b (kq, q) outer))) =
    up m1 n root total w true c (node true a (ki, i) (node false b (kq, q) outer)) (k, p) t x.0 in
    let y = risen m1 m' n root total w true c true c false (node false b (kq, q) outer) ki i a k p t link far v 0 z3
    at.link_is e ev refl rise in
    let is : rows (plug w (node c (node false t (k, p) a) (ki, i) (node false b (kq, q) outer))) ≡ rows
    (plug w (node c t (k, p) (node false (node true a (ki, i) b) (kq, q) outer))) =
    plug_rows w (node c t (k, p) (node false (node true a (ki, i) b) (kq, q) outer))
    (node c (node false t (k, p) a) (ki, i) (node false b (kq, q) outer)) (simp append_assoc) in
    ends_sound m m' n root total w (node c (node false t (k, p) a) (ki, i) (node false b (kq, q) outer))
    (h + 1 + cond c 0 1) (rows (plug w (node c t (k, p) (node false (node true a (ki, i) b) (kq, q) outer)))) y.0
    (mend_inner false c (k, p) a (ki, i) b (kq, q) outer w t h at.short) is
    (touches_both m m1 m' root total x.1 y.1)
inner_at m m1 m' n root total link p q side w true c k a ki i b kq outer t h far v link1 at e ev el turn rise =
    let turn' : Turning m m1 (p + 1) q i 2 = subst (λ (x : ℕ). Turning m m1 x q i 2) el
    (subst (λ (x : ℕ). Turning m m1 link1 q i x) at.side_is turn) in
    let z1 : Zip m n root total w (node c (node false outer (kq, q) (node true b (ki, i) a)) (k, p) t) =
    up m n root total w true c t (k, p) (node false outer (kq, q) (node true b (ki, i) a)) at.zip in
    let z2 : Zip m n root total (step false c (k, p) t w) (node false outer (kq, q) (node true b (ki, i) a)) =
    down m n root total w false c (node false outer (kq, q) (node true b (ki, i) a)) (k, p) t z1 in
    let x = turned m m1 n root total (step false c (k, p) t w) true false true a ki i b kq q outer z2 turn' in
    let z3 : Zip m1 n root total w (node c (node true (node false outer (kq, q) b) (ki, i) a) (k, p) t) =
    up m1 n root total w false c (node true (node false outer (kq, q) b) (ki, i) a) (k, p) t x.0 in
    let y = risen m1 m' n root total w false c true c false (node false outer (kq, q) b) ki i a k p t link far v 0 z3
    at.link_is e ev refl rise in
    let is : rows (plug w (node c (node false outer (kq, q) b) (ki, i) (node false a (k, p) t))) ≡ rows
    (plug w (node c (node false outer (kq, q) (node true b (ki, i) a)) (k, p) t)) =
    plug_rows w (node c (node false outer (kq, q) (node true b (ki, i) a)) (k, p) t)
    (node c (node false outer (kq, q) b) (ki, i) (node false a (k, p) t)) (simp append_assoc) in
    ends_sound m m' n root total w (node c (node false outer (kq, q) b) (ki, i) (node false a (k, p) t))
    (h + 1 + cond c 0 1) (rows (plug w (node c (node false outer (kq, q) (node true b (ki, i) a)) (k, p) t))) y.0
    (mend_inner true c (k, p) a (ki, i) b (kq, q) outer w t h at.short) is (touches_both m m1 m' root total x.1 y.1)

red_at : (m m1 m' : ℕ → ℕ) (n root : ℕ) (total : ℕ → ℕ) (link p q side : ℕ) (w : Way) (right : Bool) (k : ℕ)
    (inner : Tree) (kq : ℕ) (outer t : Tree) (h : ℕ) → LiftAt m n root total link p q side w right true k
    (join right false inner (kq, q) outer) t h
    → is_red inner ≡ false → is_red outer ≡ false → IsWrite m m1 (q + 3) 1 → IsWrite m1 m' (p + 3) 0 →
    IsMended m m' n root total (rows (plug (step right true (k, p) (join right false inner (kq, q) outer) w) t))
red_at m m1 m' n root total link p q side w right k inner kq outer t h at e f w1 w2 =
    let z1 = up m n root total w right true t (k, p) (join right false inner (kq, q) outer) at.zip in
    let z2 = beside m n root total w right true t (k, p) (join right false inner (kq, q) outer) z1 in
    let x = painted_join m m1 n root total (step (not right) true (k, p) t w) right false true inner kq q outer z2 w1 in
    let z3 = back m1 n root total w right true t (k, p) (join right true inner (kq, q) outer) x.0 in
    let y = painted_join m1 m' n root total w right true false t k p (join right true inner (kq, q) outer) z3 w2 in
    let is = plug_rows w (join right true t (k, p) (join right false inner (kq, q) outer))
    (join right false t (k, p) (join right true inner (kq, q) outer))
    (rows_swap right true false t t (k, p) (join right false inner (kq, q) outer)
    (join right true inner (kq, q) outer) refl (rows_swap right false true inner inner (
      kq,
      q,
    ) outer outer refl refl)) in
    ends_sound m m' n root total w (join right false t (k, p) (join right true inner (kq, q) outer)) (h + 1) _ y.0
    (mend_red_above right (k, p) inner (kq, q) outer w t h e f at.short) is
    (touches_both m m1 m' root total x.1 y.1)

black_at : (m m' : ℕ → ℕ) (n root : ℕ) (total : ℕ → ℕ) (link p q side : ℕ) (w : Way) (right : Bool) (k : ℕ)
    (inner : Tree) (kq : ℕ) (outer t : Tree) (h : ℕ) → LiftAt m n root total link p q side w right false k
    (join right false inner (kq, q) outer) t h
    → is_red inner ≡ false → is_red outer ≡ false → IsWrite m m' (q + 3) 1 →
    ShortHere m m' n root total w (rows (plug (step right false (k, p) (join right false inner (kq, q) outer) w) t))
black_at m m' n root total link p q side w right k inner kq outer t h at e f w1 =
    let z1 = up m n root total w right false t (k, p) (join right false inner (kq, q) outer) at.zip in
    let z2 = beside m n root total w right false t (k, p) (join right false inner (kq, q) outer) z1 in
    let x = painted_join m m' n root total (step (not right) false (k, p) t w) right false true inner kq q outer z2 w1
    in
    let z3 = back m' n root total w right false t (k, p) (join right true inner (kq, q) outer) x.0 in
    let is = plug_rows w (join right false t (k, p) (join right false inner (kq, q) outer))
    (join right false t (k, p) (join right true inner (kq, q) outer))
    (rows_swap right false false t t (k, p) (join right false inner (kq, q) outer)
    (join right true inner (kq, q) outer) refl (rows_swap right false true inner inner (
      kq,
      q,
    ) outer outer refl refl)) in
    record {
      tree = join right false t (k, p) (join right true inner (kq, q) outer);
      blacks = h + 1;
      zip = z3;
      short = mend_black_above right (k, p) inner (kq, q) outer w t h e f at.short;
      is =
          is;
      touches = x.1;
    }

join_black : (right d : Bool) (a : Tree) (x : ℕ × ℕ) (b : Tree) → is_red (join right d a x b) ≡ d
join_black false d a x b = refl
join_black true d a x b = refl

-- the same with what was read
pub lift_outer : (m m1 m' : ℕ → ℕ) (n root : ℕ) (total : ℕ → ℕ) (link p q side : ℕ) (w : Way) (right c : Bool) (k : ℕ)
    (o t : Tree) (h z v : ℕ) → LiftAt m n root total link p q side w right c k o t h
    → m (q + (3 - side)) ≡ z → z ≢ 0 → m (z + 3) ≡ 1 → m (p + 3) ≡ v → Rising m m1 link p q (3 - side) v 0 →
    IsWrite m1 m' (z + 3) 0 → IsMended m m' n root total (rows (plug (step right c (k, p) o w) t))
lift_outer m m1 m' n root total link p q side w right c k o t h z v at e ne one ev rise write =
    let s = beside_node m n root total w right c k p q o t h at.zip at.beside_is at.short in
    let far : 3 - side ≡ off (not right) = ap (λ (x : ℕ). 3 - x) at.side_is ∙ off_across right in
    let hangs : Hangs m n z s.outer = rw (ap m (ap (λ (x : ℕ). q + x) (sym far)) ∙ e) at s.on_outer in
    let r = red_node m n z s.outer hangs ne one in
    let black : s.colour ≡ false = sym (join_black right s.colour s.inner (s.key, q) s.outer) ∙
    (sym (ap is_red s.is) ∙ at.black) in
    let is : o ≡ join right false s.inner (s.key, q) (node true r.left (r.key, z) r.right) =
    s.is ∙ (ap (λ (x : Bool). join right x s.inner (s.key, q) s.outer) black ∙
    ap (λ (x : Tree). join right false s.inner (s.key, q) x) r.is) in
    let at' : LiftAt m n root total link p q side w right c k
    (join right false s.inner (s.key, q) (node true r.left (r.key, z) r.right)) t h = rw is at at in
    rw is (outer_at m m1 m' n root total link p q side w right c k s.inner s.key r.left r.key z r.right t h
    (3 - side) v at' far (sym ev ∙ at.zip.way.0.colour) rise write)

pub record RedJoin (right : Bool) (z : ℕ) (t : Tree) : Type 0 where
  pub near : Tree
  pub key : ℕ
  pub far : Tree
  pub is : t ≡ join right true near (key, z) far

red_join : (right : Bool) (m : ℕ → ℕ) (z : ℕ) (t : Tree) → RedNode m z t → RedJoin right z t
red_join false m z t r = record { near = r.left; key = r.key; far = r.right; is = r.is }
red_join true m z t r = record { near = r.right; key = r.key; far = r.left; is = r.is }

pub lift_inner : (m m1 m' : ℕ → ℕ) (n root : ℕ) (total : ℕ → ℕ) (link p q side : ℕ) (w : Way) (right c : Bool) (k : ℕ)
    (o t : Tree) (h z v : ℕ) → LiftAt m n root total link p q side w right c k o t h
    → m (q + side) ≡ z → z ≢ 0 → m (z + 3) ≡ 1 → m (p + 3) ≡ v → Turning m m1 (p + (3 - side)) q z side →
    Rising m1 m' link p z (3 - side) v 0 → IsMended m m' n root total (rows (plug (step right c (k, p) o w) t))
lift_inner m m1 m' n root total link p q side w right c k o t h z v at e ne one ev turn rise =
    let s = beside_node m n root total w right c k p q o t h at.zip at.beside_is at.short in
    let far : 3 - side ≡ off (not right) = ap (λ (x : ℕ). 3 - x) at.side_is ∙ off_across right in
    let hangs : Hangs m n z s.inner = rw (ap m (ap (λ (x : ℕ). q + x) (sym at.side_is)) ∙ e) at s.on_inner in
    let r = red_join right m z s.inner (red_node m n z s.inner hangs ne one) in
    let black : s.colour ≡ false = sym (join_black right s.colour s.inner (s.key, q) s.outer) ∙
    (sym (ap is_red s.is) ∙ at.black) in
    let is : o ≡ join right false (join right true r.near (r.key, z) r.far) (s.key, q) s.outer =
    s.is ∙ (ap (λ (x : Bool). join right x s.inner (s.key, q) s.outer) black ∙
    ap (λ (x : Tree). join right false x (s.key, q) s.outer) r.is) in
    let at' : LiftAt m n root total link p q side w right c k
    (join right false (join right true r.near (r.key, z) r.far) (s.key, q) s.outer) t h = rw is at at in
    rw is (inner_at m m1 m' n root total link p q side w right c k r.near r.key z r.far s.key s.outer t h (3 - side) v
    (p + (3 - side)) at' far (sym ev ∙ at.zip.way.0.colour) (ap (λ (x : ℕ). p + x) far) turn rise)

-- none of the two below is red
pub record NoneRed (m : ℕ → ℕ) (q side : ℕ) : Type 0 where
  pub outer : m (q + (3 - side)) ≢ 0 → m (m (q + (3 - side)) + 3) ≢ 1
  pub inner : m (q + side) ≢ 0 → m (m (q + side) + 3) ≢ 1

pub record BothBlack (m : ℕ → ℕ) (n root : ℕ) (total : ℕ → ℕ) (link p q side : ℕ) (w : Way) (right c : Bool) (k : ℕ)
    (o t : Tree) (h : ℕ) : Type 0 where
  pub inner : Tree
  pub key : ℕ
  pub outer : Tree
  pub is : o ≡ join right false inner (key, q) outer
  pub at : LiftAt m n root total link p q side w right c k (join right false inner (key, q) outer) t h
  pub inner_black : is_red inner ≡ false
  pub outer_black : is_red outer ≡ false

pub both_black : (m : ℕ → ℕ) (n root : ℕ) (total : ℕ → ℕ) (link p q side : ℕ) (w : Way) (right c : Bool) (k : ℕ)
    (o t : Tree) (h : ℕ) → LiftAt m n root total link p q side w right c k o t h → NoneRed m q side →
    BothBlack m n root total link p q side w right c k o t h
both_black m n root total link p q side w right c k o t h at none =
    let s = beside_node m n root total w right c k p q o t h at.zip at.beside_is at.short in
    let far : 3 - side ≡ off (not right) = ap (λ (x : ℕ). 3 - x) at.side_is ∙ off_across right in
    let black : s.colour ≡ false = sym (join_black right s.colour s.inner (s.key, q) s.outer) ∙
    (sym (ap is_red s.is) ∙ at.black) in
    let is : o ≡ join right false s.inner (s.key, q) s.outer =
    s.is ∙ ap (λ (x : Bool). join right x s.inner (s.key, q) s.outer) black in
    record {
      inner = s.inner;
      key = s.key;
      outer = s.outer;
      is = is;
      at = rw is at at;
      inner_black = not_red m n (m (q + off right)) s.inner s.on_inner (subst (λ (x : ℕ). m (q + x) ≢ 0 →
          m (m (q + x) + 3) ≢ 1) at.side_is none.inner);
      outer_black = not_red m n (m (q + off (not right))) s.outer s.on_outer (subst (λ (x : ℕ). m (q + x) ≢ 0 →
          m (m (q + x) + 3) ≢ 1) far none.outer);
    }

pub lift_red : (m m1 m' : ℕ → ℕ) (n root : ℕ) (total : ℕ → ℕ) (link p q side : ℕ) (w : Way) (right c : Bool) (k : ℕ)
    (o t : Tree) (h : ℕ) → LiftAt m n root total link p q side w right c k o t h → NoneRed m q side → c ≡ true →
    IsWrite m m1 (q + 3) 1 → IsWrite m1 m' (p + 3) 0 → IsMended m m' n root total
    (rows (plug (step right c (k, p) o w) t))
lift_red m m1 m' n root total link p q side w right false k o t h at none e w1 w2 = absurd_red (sym e)
lift_red m m1 m' n root total link p q side w right true k o t h at none e w1 w2 =
    let b = both_black m n root total link p q side w right true k o t h at none in
    rw b.is (red_at m m1 m' n root total link p q side w right k b.inner b.key b.outer t h b.at b.inner_black
    b.outer_black w1 w2)

pub lift_black : (m m' : ℕ → ℕ) (n root : ℕ) (total : ℕ → ℕ) (link p q side : ℕ) (w : Way) (right c : Bool) (k : ℕ)
    (o t : Tree) (h : ℕ) → LiftAt m n root total link p q side w right c k o t h → NoneRed m q side → c ≡ false →
    IsWrite m m' (q + 3) 1 → ShortHere m m' n root total w (rows (plug (step right c (k, p) o w) t))
lift_black m m' n root total link p q side w right true k o t h at none e w1 = absurd_red e
lift_black m m' n root total link p q side w right false k o t h at none e w1 =
    let b = both_black m n root total link p q side w right false k o t h at none in
    rw b.is (black_at m m' n root total link p q side w right k b.inner b.key b.outer t h b.at b.inner_black
    b.outer_black w1)
