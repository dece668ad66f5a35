-- A red node below a red one: the steps that end this, in one memory.
use Rattle.std.proofs.Common.{◌≡◌, ◌≢◌, ℕ, ◌+◌, ◌-◌, ◌%◌, ◌≤◌, Bool, true, false, not, List, slice_index, refl, sym, ap}
use Rattle.std.proofs.Common.{◌∙◌, subst, arith, append_assoc}
use Rattle.tx_memory.specs.View.{IsWrite}
use Rattle.tx_alloc.specs.Rows.{Rows}
use Rattle.tx_tree.specs.Tree.{Tree, leaf, node, join, rows, is_red}
use Rattle.tx_tree.specs.Way.{Way, top, step, plug, depth}
use Rattle.tx_tree.specs.Balance.{Sound, Raised}
use Rattle.tx_tree.specs.Hangs.{Hangs, off, link_of, Zip, Touches, Turning}
use Rattle.tx_tree.specs.Steps.{IsPath}
use Rattle.tx_tree.specs.Mending.{Rising, IsMended, RaisedAt, IsToTurn}
use Rattle.tx_tree.proofs.Shapes.{plug_rows}
use Rattle.tx_tree.proofs.Mends.{rows_turn, rows_swap, raise_top, raise_black, raise_flip, raise_outer, raise_inner}
use Rattle.tx_tree.proofs.Zipped.{off_across, up}
use Rattle.tx_tree.proofs.Writes.{touches_both, painted, turned}
use Rattle.tx_tree.proofs.Seeking.{path_at}
use Rattle.tx_tree.proofs.Ways.{link_at}
use Rattle.tx_tree.proofs.Ending.{ends_sound, beside, back, painted_join, risen}

absurd_red : {A : Type 0} → true ≡ false → A
absurd_red e = cc

-- a pointer that is 0, or leads to another colour
pub not_red : (m : ℕ → ℕ) (n q : ℕ) (t : Tree) → Hangs m n q t → (q ≢ 0 → m (q + 3) ≢ 1) → is_red t ≡ false
not_red m n q leaf h never = refl
not_red m n q (node false l (k, a) r) h never = refl
not_red m n q (node true l (k, a) r) h never =
    absurd (never (λ z. absurd (omega (arith, h.0.at, z, h.0.block.1.1)))
    (ap (λ (x : ℕ). m (x + 3)) h.0.at ∙ h.0.colour))

pub record RedNode (m : ℕ → ℕ) (q : ℕ) (t : Tree) : Type 0 where
  pub left : Tree
  pub key : ℕ
  pub right : Tree
  pub is : t ≡ node true left (key, q) right

pub red_node : (m : ℕ → ℕ) (n q : ℕ) (t : Tree) → Hangs m n q t → q ≢ 0 → m (q + 3) ≡ 1 → RedNode m q t
red_node m n q leaf h ne one = absurd (ne h)
red_node m n q (node false l (k, a) r) h ne one = absurd (omega (arith, h.0.colour, ap (λ (x : ℕ). m (x + 3)) h.0.at))
red_node m n q (node true l (k, a) r) h ne one =
    let at : a ≡ q = sym h.0.at in
    record { left = l; key = k; right = r; is = rw at refl }

-- the last two steps of a path
pub record TwoUp (root : ℕ) (xs : List ℕ) (d p g : ℕ) (s1 s2 : Bool) (w : Way) : Type 0 where
  pub parent : slice_index xs d - slice_index xs d % 8 ≡ p
  pub side : slice_index xs d % 8 ≡ off s1
  pub grand : slice_index xs (d - 1) - slice_index xs (d - 1) % 8 ≡ g
  pub upper : slice_index xs (d - 1) % 8 ≡ off s2
  pub middle : slice_index xs (d - 1) ≡ g + off s2
  pub third : slice_index xs (d - 2) ≡ link_of root w

pub two_up : (m : ℕ → ℕ) (n root : ℕ) (total : ℕ → ℕ) (xs : List ℕ) (d : ℕ) (s1 c1 : Bool) (kp p : ℕ) (o : Tree)
    (s2 c2 : Bool) (kg g : ℕ) (u : Tree) (w : Way) (t : Tree) →
    Zip m n root total (step s1 c1 (kp, p) o (step s2 c2 (kg, g) u w)) t →
    IsPath xs root (step s1 c1 (kp, p) o (step s2 c2 (kg, g) u w)) → d ≡ depth w + 1 + 1 → TwoUp root xs d p g s1 s2 w
two_up m n root total xs d s1 c1 kp p o s2 c2 kg g u w t z path e =
    let e1 : d - 1 ≡ depth w + 1 = omega arith in
    let e2 : d - 2 ≡ depth w = omega arith in
    let a = link_at n (slice_index xs d) p s1 z.way.0.block (ap (slice_index xs) e ∙ path.0) in
    let mid : slice_index xs (d - 1) ≡ g + off s2 = ap (slice_index xs) e1 ∙ path.1.0 in
    let b = link_at n (slice_index xs (d - 1)) g s2 z.way.1.1.0.block mid in
    record {
      parent = a.block;
      side = a.side;
      grand = b.block;
      upper = b.side;
      middle = mid;
      third = ap (slice_index xs) e2 ∙ path_at xs root w path.1.1;
    }

-- the node above is black
pub sound_black : (m : ℕ → ℕ) (n root : ℕ) (total : ℕ → ℕ) (xs : List ℕ) (d b : ℕ) (w : Way) (l : Tree) (k : ℕ)
    (o : Tree) (h : ℕ) → RaisedAt m n root total xs d b w l k o h → 1 ≤ d →
    m (slice_index xs d - slice_index xs d % 8 + 3) ≢ 1 → Sound w (node true l (k, b) o) h
sound_black m n root total xs d b top l k o h r one never = absurd (omega (arith, r.deep))
sound_black m n root total xs d b (step s false x y w) l k o h r one never =
    raise_black s x y w (node true l (k, b) o) h r.raised
sound_black m n root total xs d b (step s true (kp, p) y w) l k o h r one never =
    let a = link_at n (slice_index xs d) p s r.zip.way.0.block (ap (slice_index xs) r.deep ∙ r.path.0) in
    absurd (never (ap (λ (x : ℕ). m (x + 3)) a.block ∙ r.zip.way.0.colour))

-- the node above is the whole tree's root
pub sound_one : (m : ℕ → ℕ) (n root : ℕ) (total : ℕ → ℕ) (xs : List ℕ) (d b : ℕ) (w : Way) (l : Tree) (k : ℕ) (o : Tree)
    (h : ℕ) → RaisedAt m n root total xs d b w l k o h → d ≡ 1 → Sound w (node true l (k, b) o) h
sound_one m n root total xs d b top l k o h r one = absurd (omega (arith, r.deep))
sound_one m n root total xs d b (step s false x y w) l k o h r one =
    raise_black s x y w (node true l (k, b) o) h r.raised
sound_one m n root total xs d b (step s true x y top) l k o h r one = absurd_red r.raised.fits.2
sound_one m n root total xs d b (step s true x y (step s2 c2 x2 y2 w)) l k o h r one = absurd (omega (arith, r.deep))

-- the node is the whole tree's root
pub ends_top : (m m' : ℕ → ℕ) (n root : ℕ) (total : ℕ → ℕ) (xs : List ℕ) (d b : ℕ) (w : Way) (l : Tree) (k : ℕ)
    (o : Tree) (h : ℕ) → RaisedAt m n root total xs d b w l k o h → d ≡ 0 → IsWrite m m' (b + 3) 0 →
    IsMended m m' n root total (rows (plug w (node true l (k, b) o)))
ends_top m m' n root total xs d b top l k o h r none write =
    let p = painted m m' n root total top true false l k b o r.zip write in
    ends_sound m m' n root total top (node false l (k, b) o) (h + 1) (rows (node true l (k, b) o)) p.0
    (raise_top l (k, b) o h r.raised) refl p.1
ends_top m m' n root total xs d b (step s c x y w) l k o h r none write = absurd (omega (arith, r.deep))

-- the rows of the whole, and what was written so far
pub record RaisedNow (m0 m : ℕ → ℕ) (n root : ℕ) (total : ℕ → ℕ) (xs : List ℕ) (d b : ℕ) (rs : Rows) : Type 0 where
  pub way : Way
  pub left : Tree
  pub key : ℕ
  pub right : Tree
  pub blacks : ℕ
  pub at : RaisedAt m n root total xs d b way left key right blacks
  pub is : rows (plug way (node true left (key, b) right)) ≡ rs
  pub touches : Touches m0 m root total

now : (m m' : ℕ → ℕ) (n root : ℕ) (total : ℕ → ℕ) (xs : List ℕ) (d g : ℕ) (s : Bool) (kg : ℕ) (near far : Tree)
    (w : Way) (h : ℕ) (rs : Rows) → Zip m' n root total w (join s true near (kg, g) far) → IsPath xs root w →
    d ≡ depth w → Raised w (join s true near (kg, g) far) h → rows (plug w (join s true near (kg, g) far)) ≡ rs →
    Touches m m' root total → RaisedNow m m' n root total xs d g rs
now m m' n root total xs d g false kg near far w h rs z path deep raised is touches =
    record {
      way = w;
      left = near;
      key = kg;
      right = far;
      blacks = h;
      at = record { zip = z; path = path; deep = deep; raised = raised };
      is = is;
      touches = touches;
    }
now m m' n root total xs d g true kg near far w h rs z path deep raised is touches =
    record {
      way = w;
      left = far;
      key = kg;
      right = near;
      blacks = h;
      at = record { zip = z; path = path; deep = deep; raised = raised };
      is = is;
      touches = touches;
    }

-- the nodes above and beside become black, the one above both red
flip_at : (m m1 m2 m' : ℕ → ℕ) (n root : ℕ) (total : ℕ → ℕ) (xs : List ℕ) (d b : ℕ) (s1 : Bool) (kp p : ℕ) (y : Tree)
    (s2 : Bool) (kg g : ℕ) (a : Tree) (ku u : ℕ) (c : Tree) (w : Way) (l : Tree) (k : ℕ) (o : Tree) (h : ℕ)
    → RaisedAt m n root total xs d b (step s1 true (kp, p) y (step s2 false (kg, g) (node true a (ku, u) c) w)) l k o h
    → IsWrite m m1 (p + 3) 0 → IsWrite m1 m2 (u + 3) 0 → IsWrite m2 m' (g + 3) 1
    → RaisedNow m m' n root total xs (d - 2) g (rows (plug (step s1 true (kp, p) y
    (step s2 false (kg, g) (node true a (ku, u) c) w)) (node true l (k, b) o)))
flip_at m m1 m2 m' n root total xs d b s1 kp p y s2 kg g a ku u c w l k o h r w1 w2 w3 =
    let x = node true l (k, b) o in
    let z1 = up m n root total (step s2 false (kg, g) (node true a (ku, u) c) w) s1 true x (kp, p) y r.zip in
    let p1 = painted_join m m1 n root total (step s2 false (kg, g) (node true a (ku, u) c) w) s1 true false x kp p y z1
    w1 in
    let z2 = up m1 n root total w s2 false (join s1 false x (kp, p) y) (kg, g) (node true a (ku, u) c) p1.0 in
    let z3 = beside m1 n root total w s2 false (join s1 false x (kp, p) y) (kg, g) (node true a (ku, u) c) z2 in
    let p2 = painted m1 m2 n root total (step (not s2) false (kg, g) (join s1 false x (kp, p) y) w) true false a ku u c
    z3 w2 in
    let z4 = back m2 n root total w s2 false (join s1 false x (kp, p) y) (kg, g) (node false a (ku, u) c) p2.0 in
    let p3 = painted_join m2 m' n root total w s2 false true (join s1 false x (kp, p) y) kg g
    (node false a (ku, u) c) z4 w3 in
    let raised = raise_flip s1 s2 (kp, p) y (kg, g) a (ku, u) c w x h r.raised in
    let is : rows (plug w (join s2 true (join s1 false x (kp, p) y) (kg, g) (node false a (ku, u) c))) ≡ rows
    (plug w (join s2 false (join s1 true x (kp, p) y) (kg, g) (node true a (ku, u) c))) =
    plug_rows w _ _ (rows_swap s2 false true (join s1 true x (kp, p) y) (join s1 false x (kp, p) y) (kg, g)
    (node true a (ku, u) c) (node false a (ku, u) c) (rows_swap s1 true false x x (kp, p) y y refl refl) refl) in
    now m m' n root total xs (d - 2) g s2 kg (join s1 false x (kp, p) y) (node false a (ku, u) c) w
    (h + 1) _ p3.0 r.path.1.1 (omega (arith, r.deep)) raised is
    (touches_both m m1 m' root total p1.1 (touches_both m1 m2 m' root total p2.1 p3.1))

pub flipped : (m m1 m2 m' : ℕ → ℕ) (n root : ℕ) (total : ℕ → ℕ) (xs : List ℕ) (d b u : ℕ) (w : Way) (l : Tree) (k : ℕ)
    (o : Tree) (h : ℕ) → RaisedAt m n root total xs d b w l k o h → 2 ≤ d
    → m (slice_index xs d - slice_index xs d % 8 + 3) ≡ 1 → m
    (slice_index xs (d - 1) - slice_index xs (d - 1) % 8 + (3 - slice_index xs (d - 1) % 8)) ≡ u → u ≢ 0 →
    m (u + 3) ≡ 1
    → IsWrite m m1 (slice_index xs d - slice_index xs d % 8 + 3) 0 → IsWrite m1 m2 (u + 3) 0 →
    IsWrite m2 m' (slice_index xs (d - 1) - slice_index xs (d - 1) % 8 + 3) 1
    → RaisedNow m m' n root total xs (d - 2) (slice_index xs (d - 1) - slice_index xs (d - 1) % 8)
    (rows (plug w (node true l (k, b) o)))
flipped m m1 m2 m' n root total xs d b u top l k o h r two red at some red' w1 w2 w3 = absurd (omega (arith, r.deep))
flipped m m1 m2 m' n root total xs d b u (step s c x y top) l k o h r two red at some red' w1 w2 w3 =
    absurd (omega (arith, r.deep))
flipped m m1 m2 m' n root total xs d b u (step s1 false (kp, p) y (step s2 c2 (kg, g) z w)) l k o h r two red at some
    red' w1 w2 w3 =
    let t = two_up m n root total xs d s1 false kp p y s2 c2 kg g z w (node true l (k, b) o) r.zip r.path r.deep in
    absurd (omega (arith, red, ap (λ (x : ℕ). m (x + 3)) t.parent, r.zip.way.0.colour))
flipped m m1 m2 m' n root total xs d b u (step s1 true (kp, p) y (step s2 true (kg, g) z w)) l k o h r two red at some
    red' w1 w2 w3 = absurd_red (r.raised.fits.2.0 refl).0
flipped m m1 m2 m' n root total xs d b u (step s1 true (kp, p) y (step s2 false (kg, g) z w)) l k o h r two red at some
    red' w1 w2 w3 =
    let t = two_up m n root total xs d s1 true kp p y s2 false kg g z w (node true l (k, b) o) r.zip r.path r.deep in
    let e : slice_index xs (d - 1) - slice_index xs (d - 1) % 8 + (3 - slice_index xs (d - 1) % 8) ≡ g + off (not s2) =
    omega (arith, t.grand, t.upper, off_across s2) in
    let q : m (g + off (not s2)) ≡ u = sym (ap m e) ∙ at in
    let hangs : Hangs m n u z = rw q at r.zip.way.1.1.1.0 in
    let n' = red_node m n u z hangs some red' in
    let w1' : IsWrite m m1 (p + 3) 0 = rw t.parent at w1 in
    let w3' : IsWrite m2 m' (g + 3) 1 = rw t.grand at w3 in
    let r' : RaisedAt m n root total xs d b (step s1 true (kp, p) y
    (step s2 false (kg, g) (node true n'.left (n'.key, u) n'.right) w)) l k o h = rw n'.is at r in
    rw (t.grand, n'.is) (flip_at m m1 m2 m' n root total xs d b s1 kp p y s2 kg g n'.left n'.key u n'.right w l k o h r'
    w1' w2 w3')

-- the node above comes up
outer_at : (m m' : ℕ → ℕ) (n root : ℕ) (total : ℕ → ℕ) (xs : List ℕ) (d b : ℕ) (s : Bool) (kp p : ℕ) (y : Tree)
    (kg g : ℕ) (u : Tree) (w : Way) (l : Tree) (k : ℕ) (o : Tree) (h link side : ℕ)
    → RaisedAt m n root total xs d b (step s true (kp, p) y (step s false (kg, g) u w)) l k o h → is_red u ≡ false →
    link ≡ link_of root w → side ≡ off s → Rising m m' link g p side 0 1
    → IsMended m m' n root total (rows (plug (step s true (kp, p) y (step s false (kg, g) u w)) (node true l (k, b) o)))
outer_at m m' n root total xs d b s kp p y kg g u w l k o h link side r black el es rise =
    let x = node true l (k, b) o in
    let z1 = up m n root total (step s false (kg, g) u w) s true x (kp, p) y r.zip in
    let z2 = up m n root total w s false (join s true x (kp, p) y) (kg, g) u z1 in
    let a = risen m m' n root total w s false true false true x kp p y kg g u link side 0 1 z2 el es refl refl rise in
    let is : rows (plug w (join s false x (kp, p) (join s true y (kg, g) u))) ≡ rows
    (plug w (join s false (join s true x (kp, p) y) (kg, g) u)) =
    plug_rows w _ _ (sym (rows_turn s false true false true x (kp, p) y (kg, g) u)) in
    ends_sound m m' n root total w (join s false x (kp, p) (join s true y (kg, g) u)) (h + 1) _ a.0
    (raise_outer s (kp, p) y (kg, g) u w x h black r.raised) is a.1

-- the node itself comes up, two times
inner_at : (m m1 m' : ℕ → ℕ) (n root : ℕ) (total : ℕ → ℕ) (xs : List ℕ) (d b : ℕ) (s : Bool) (kp p : ℕ) (y : Tree)
    (kg g : ℕ) (u : Tree) (w : Way) (a : Tree) (k : ℕ) (c : Tree) (h link1 side1 link side : ℕ)
    → Zip m n root total (step (not s) true (kp, p) y (step s false (kg, g) u w)) (join s true a (k, b) c) →
    Raised (step (not s) true (kp, p) y (step s false (kg, g) u w)) (join s true a (k, b) c) h → is_red u ≡ false
    → link1 ≡ g + off s → side1 ≡ off (not s) → Turning m m1 link1 p b side1 → link ≡ link_of root w → side ≡ off s →
    Rising m1 m' link g b side 0 1
    → IsMended m m' n root total (rows (plug (step (not s) true (kp, p) y (step s false (kg, g) u w))
    (join s true a (k, b) c)))
inner_at m m1 m' n root total xs d b false kp p y kg g u w a k c h link1 side1 link side z raised black el1 es1 turn el
    es rise =
    let t : Turning m m1 (g + 1) p b 2 = subst (λ (x : ℕ). Turning m m1 x p b 2) el1
    (subst (λ (x : ℕ). Turning m m1 link1 p b x) es1 turn) in
    let z1 = up m n root total (step false false (kg, g) u w) true true (node true a (k, b) c) (kp, p) y z in
    let t1 = turned m m1 n root total (step false false (kg, g) u w) true true true c k b a kp p y z1 t in
    let z2 = up m1 n root total w false false (node true (node true y (kp, p) a) (k, b) c) (kg, g) u t1.0 in
    let f = risen m1 m' n root total w false false true false true
    (node true y (kp, p) a) k b c kg g u link side 0 1 z2 el es refl refl rise in
    let is : rows (plug w (node false (node true y (kp, p) a) (k, b) (node true c (kg, g) u))) ≡ rows
    (plug w (node false (node true y (kp, p) (node true a (k, b) c)) (kg, g) u)) =
    plug_rows w _ _ (simp append_assoc) in
    ends_sound m m' n root total w (node false (node true y (kp, p) a) (k, b) (node true c (kg, g) u)) (h + 1) _ f.0
    (raise_inner false (kp, p) y (kg, g) u w a (k, b) c h black raised) is
    (touches_both m m1 m' root total t1.1 f.1)
inner_at m m1 m' n root total xs d b true kp p y kg g u w a k c h link1 side1 link side z raised black el1 es1 turn el
    es rise =
    let t : Turning m m1 (g + 2) p b 1 = subst (λ (x : ℕ). Turning m m1 x p b 1) el1
    (subst (λ (x : ℕ). Turning m m1 link1 p b x) es1 turn) in
    let z1 = up m n root total (step true false (kg, g) u w) false true (node true c (k, b) a) (kp, p) y z in
    let t1 = turned m m1 n root total (step true false (kg, g) u w) false true true c k b a kp p y z1 t in
    let z2 = up m1 n root total w true false (node true c (k, b) (node true a (kp, p) y)) (kg, g) u t1.0 in
    let f = risen m1 m' n root total w true false true false true
    (node true a (kp, p) y) k b c kg g u link side 0 1 z2 el es refl refl rise in
    let is : rows (plug w (node false (node true u (kg, g) c) (k, b) (node true a (kp, p) y))) ≡ rows
    (plug w (node false u (kg, g) (node true (node true c (k, b) a) (kp, p) y))) =
    plug_rows w _ _ (simp append_assoc) in
    ends_sound m m' n root total w (node false (node true u (kg, g) c) (k, b) (node true a (kp, p) y)) (h + 1) _ f.0
    (raise_inner true (kp, p) y (kg, g) u w a (k, b) c h black raised) is (touches_both m m1 m' root total t1.1 f.1)

pub turn_same : (m m' : ℕ → ℕ) (n root : ℕ) (total : ℕ → ℕ) (xs : List ℕ) (d b : ℕ) (w : Way) (l : Tree) (k : ℕ)
    (o : Tree) (h : ℕ) → RaisedAt m n root total xs d b w l k o h → 2 ≤ d →
    IsToTurn m (slice_index xs d) (slice_index xs (d - 1)) → slice_index xs d % 8 ≡ slice_index xs (d - 1) % 8
    → Rising m m' (slice_index xs (d - 2)) (slice_index xs (d - 1) - slice_index xs (d - 1) % 8)
    (slice_index xs d - slice_index xs d % 8) (slice_index xs (d - 1) % 8) 0 1 →
    IsMended m m' n root total (rows (plug w (node true l (k, b) o)))
turn_same m m' n root total xs d b top l k o h r two turn sides rise = absurd (omega (arith, r.deep))
turn_same m m' n root total xs d b (step s c x y top) l k o h r two turn sides rise = absurd (omega (arith, r.deep))
turn_same m m' n root total xs d b (step s1 false (kp, p) y (step s2 c2 (kg, g) z w)) l k o h r two turn sides rise =
    let t = two_up m n root total xs d s1 false kp p y s2 c2 kg g z w (node true l (k, b) o) r.zip r.path r.deep in
    absurd (omega (arith, turn.parent, ap (λ (x : ℕ). m (x + 3)) t.parent, r.zip.way.0.colour))
turn_same m m' n root total xs d b (step s1 true (kp, p) y (step s2 true (kg, g) z w)) l k o h r two turn sides rise =
    absurd_red (r.raised.fits.2.0 refl).0
turn_same m m' n root total xs d b (step false true (kp, p) y (step false false (kg, g) z w)) l k o h r two turn sides
    rise =
    let t = two_up m n root total xs d false true kp p y false false kg g z w
    (node true l (k, b) o) r.zip r.path r.deep in
    let e : slice_index xs (d - 1) - slice_index xs (d - 1) % 8 + (3 - slice_index xs (d - 1) % 8) ≡ g + off
    (not false) = omega (arith, t.grand, t.upper) in
    let black : is_red z ≡ false = not_red m n (m (g + off (not false))) z r.zip.way.1.1.1.0
    (subst (λ (x : ℕ). m x ≢ 0 → m (m x + 3) ≢ 1) e turn.uncle) in
    let rise' : Rising m m' (slice_index xs (d - 2)) g p (slice_index xs (d - 1) % 8) 0 1 =
    rw (t.grand, t.parent) at rise in
    outer_at m m' n root total xs d b false kp p y kg g z w l k o h (slice_index xs (d - 2))
    (slice_index xs (d - 1) % 8) r black t.third t.upper rise'
turn_same m m' n root total xs d b (step false true (kp, p) y (step true false (kg, g) z w)) l k o h r two turn sides
    rise =
    let t = two_up m n root total xs d false true kp p y true false kg g z w
    (node true l (k, b) o) r.zip r.path r.deep in
    absurd (omega (arith, t.side, t.upper))
turn_same m m' n root total xs d b (step true true (kp, p) y (step false false (kg, g) z w)) l k o h r two turn sides
    rise =
    let t = two_up m n root total xs d true true kp p y false false kg g z w
    (node true l (k, b) o) r.zip r.path r.deep in
    absurd (omega (arith, t.side, t.upper))
turn_same m m' n root total xs d b (step true true (kp, p) y (step true false (kg, g) z w)) l k o h r two turn sides
    rise =
    let t = two_up m n root total xs d true true kp p y true false kg g z w
    (node true l (k, b) o) r.zip r.path r.deep in
    let e : slice_index xs (d - 1) - slice_index xs (d - 1) % 8 + (3 - slice_index xs (d - 1) % 8) ≡ g + off
    (not true) = omega (arith, t.grand, t.upper) in
    let black : is_red z ≡ false = not_red m n (m (g + off (not true))) z r.zip.way.1.1.1.0 (subst (λ (x : ℕ). m x ≢ 0 →
    m (m x + 3) ≢ 1) e turn.uncle) in
    let rise' : Rising m m' (slice_index xs (d - 2)) g p (slice_index xs (d - 1) % 8) 0 1 =
    rw (t.grand, t.parent) at rise in
    outer_at m m' n root total xs d b true kp p y kg g z w l k o h (slice_index xs (d - 2))
    (slice_index xs (d - 1) % 8) r black t.third t.upper rise'

pub turn_other : (m m1 m' : ℕ → ℕ) (n root : ℕ) (total : ℕ → ℕ) (xs : List ℕ) (d b : ℕ) (w : Way) (l : Tree) (k : ℕ)
    (o : Tree) (h : ℕ) → RaisedAt m n root total xs d b w l k o h → 2 ≤ d →
    IsToTurn m (slice_index xs d) (slice_index xs (d - 1)) → slice_index xs d % 8 ≢ slice_index xs (d - 1) % 8
    → Turning m m1 (slice_index xs (d - 1)) (slice_index xs d - slice_index xs d % 8) b (slice_index xs d % 8) →
    Rising m1 m' (slice_index xs (d - 2)) (slice_index xs (d - 1) - slice_index xs (d - 1) % 8) b
    (slice_index xs (d - 1) % 8) 0 1 → IsMended m m' n root total (rows (plug w (node true l (k, b) o)))
turn_other m m1 m' n root total xs d b top l k o h r two turn sides first rise = absurd (omega (arith, r.deep))
turn_other m m1 m' n root total xs d b (step s c x y top) l k o h r two turn sides first rise =
    absurd (omega (arith, r.deep))
turn_other m m1 m' n root total xs d b (step s1 false (kp, p) y (step s2 c2 (kg, g) z w)) l k o h r two turn sides first
    rise =
    let t = two_up m n root total xs d s1 false kp p y s2 c2 kg g z w (node true l (k, b) o) r.zip r.path r.deep in
    absurd (omega (arith, turn.parent, ap (λ (x : ℕ). m (x + 3)) t.parent, r.zip.way.0.colour))
turn_other m m1 m' n root total xs d b (step s1 true (kp, p) y (step s2 true (kg, g) z w)) l k o h r two turn sides
    first rise = absurd_red (r.raised.fits.2.0 refl).0
turn_other m m1 m' n root total xs d b (step false true (kp, p) y (step false false (kg, g) z w)) l k o h r two turn
    sides first rise =
    let t = two_up m n root total xs d false true kp p y false false kg g z w
    (node true l (k, b) o) r.zip r.path r.deep in
    absurd (sides (t.side ∙ sym t.upper))
turn_other m m1 m' n root total xs d b (step false true (kp, p) y (step true false (kg, g) z w)) l k o h r two turn
    sides first rise =
    let t = two_up m n root total xs d false true kp p y true false kg g z w
    (node true l (k, b) o) r.zip r.path r.deep in
    let e : slice_index xs (d - 1) - slice_index xs (d - 1) % 8 + (3 - slice_index xs (d - 1) % 8) ≡ g + off
    (not true) = omega (arith, t.grand, t.upper) in
    let black : is_red z ≡ false = not_red m n (m (g + off (not true))) z r.zip.way.1.1.1.0 (subst (λ (x : ℕ). m x ≢ 0 →
    m (m x + 3) ≢ 1) e turn.uncle) in
    let rise' : Rising m1 m' (slice_index xs (d - 2)) g b (slice_index xs (d - 1) % 8) 0 1 = rw t.grand at rise in
    let first' : Turning m m1 (slice_index xs (d - 1)) p b (slice_index xs d % 8) = rw t.parent at first in
    inner_at m m1 m' n root total xs d b true kp p y kg g z w o k l h (slice_index xs (d - 1)) (slice_index xs d % 8)
    (slice_index xs (d - 2)) (slice_index xs (d - 1) % 8) r.zip r.raised black t.middle t.side first' t.third
    t.upper rise'
turn_other m m1 m' n root total xs d b (step true true (kp, p) y (step false false (kg, g) z w)) l k o h r two turn
    sides first rise =
    let t = two_up m n root total xs d true true kp p y false false kg g z w
    (node true l (k, b) o) r.zip r.path r.deep in
    let e : slice_index xs (d - 1) - slice_index xs (d - 1) % 8 + (3 - slice_index xs (d - 1) % 8) ≡ g + off
    (not false) = omega (arith, t.grand, t.upper) in
    let black : is_red z ≡ false = not_red m n (m (g + off (not false))) z r.zip.way.1.1.1.0
    (subst (λ (x : ℕ). m x ≢ 0 → m (m x + 3) ≢ 1) e turn.uncle) in
    let rise' : Rising m1 m' (slice_index xs (d - 2)) g b (slice_index xs (d - 1) % 8) 0 1 = rw t.grand at rise in
    let first' : Turning m m1 (slice_index xs (d - 1)) p b (slice_index xs d % 8) = rw t.parent at first in
    inner_at m m1 m' n root total xs d b false kp p y kg g z w l k o h (slice_index xs (d - 1)) (slice_index xs d % 8)
    (slice_index xs (d - 2)) (slice_index xs (d - 1) % 8) r.zip r.raised black t.middle t.side first' t.third
    t.upper rise'
turn_other m m1 m' n root total xs d b (step true true (kp, p) y (step true false (kg, g) z w)) l k o h r two turn sides
    first rise =
    let t = two_up m n root total xs d true true kp p y true false kg g z w
    (node true l (k, b) o) r.zip r.path r.deep in
    absurd (sides (t.side ∙ sym t.upper))
