-- A tree that lacks a black node, over every memory that there may be.
use Rattle.std.proofs.lemmas.Bool.Decides.{nat_tests}
use Rattle.std.proofs.Common.{◌≡◌, ◌≢◌, inl, inr, ℕ, ◌+◌, ◌-◌, ◌%◌, ◌<◌, ◌≤◌, Bool, true, false, not, cond, List}
use Rattle.std.proofs.Common.{length, slice_index, refl, sym, ap, ◌∙◌, subst, arith, append_assoc}
use Rattle.tx_memory.specs.Seen.{some_le}
use Rattle.tx_memory.specs.View.{View, Sees, RestsOn, Kept, Loaded, Stored, IsWrite}
use Rattle.tx_alloc.specs.Pool.{IsBlock}
use Rattle.tx_alloc.specs.Steps.{mem, kept_none, kept_both, stood, at_start, write_at_start}
use Rattle.tx_alloc.specs.Rows.{Rows}
use Rattle.tx_tree.specs.Tree.{Tree, node, join, rows}
use Rattle.tx_tree.specs.Way.{Way, top, step, plug, depth}
use Rattle.tx_tree.specs.Balance.{Short}
use Rattle.tx_tree.specs.Hangs.{off, link_of, Zip, Touches, Turning}
use Rattle.tx_alloc.specs.Pointer.{LeadsToBlock}
use Rattle.tx_tree.specs.Steps.{IsPath, Reached, Coloured}
use Rattle.tx_tree.specs.Mending.{Rising, Raising, Rotated, HasWay, IsMended, ShortAt, HasShort, Mended}
use Rattle.tx_tree.specs.Lifting.{LiftAt, SomeLift, HasLift, ShortHere, Lifted, ShortUp, Stepped}
use Rattle.tx_tree.proofs.Shapes.{plug_rows}
use Rattle.tx_tree.proofs.Mends.{mend_red}
use Rattle.tx_tree.proofs.Zipped.{off_range, off_across, up, down, link_is, way_block}
use Rattle.tx_tree.proofs.Writes.{touches_none, touches_both}
use Rattle.tx_tree.proofs.Moves.{pointer}
use Rattle.tx_tree.proofs.Seeking.{path_at}
use Rattle.tx_tree.proofs.Ways.{link_at}
use Rattle.tx_tree.proofs.Ending.{ends_after, risen}
use Rattle.tx_tree.proofs.Raised.{not_red}
use Rattle.tx_tree.proofs.Lifted.{beside_node, lift_outer, lift_inner, NoneRed, lift_red, lift_black}

absurd_red : {A : Type 0} → true ≡ false → A
absurd_red e = cc

one_true : (c : Bool) → cond {A = ℕ} c 1 0 ≡ 1 → c ≡ true
one_true true e = refl
one_true false e = absurd (omega arith)

one_false : (c : Bool) → cond {A = ℕ} c 1 0 ≢ 1 → c ≡ false
one_false true ne = absurd (ne refl)
one_false false ne = refl

pub lift_along : (s s' : View) (link p q side : ℕ) → Kept s s' → s'.writes ≡ s.writes → HasLift s link p q side →
    HasLift s' link p q side
lift_along s s' link p q side k w h = grind (arith, nat_tests, stood k)

pub record LiftRooms (n link p q side : ℕ) : Type 0 where
  pub link_in : link + 1 ≤ n
  pub node : p + 8 ≤ n
  pub node_low : 16 ≤ p
  pub beside : q + 8 ≤ n
  pub low : 1 ≤ side
  pub high : side ≤ 2

rooms_at : (m : ℕ → ℕ) (n link p q side : ℕ) → 16 ≤ n → SomeLift m n link p q side → LiftRooms n link p q side
rooms_at m n link p q side room a = grind (
  arith,
  nat_tests,
  beside_node m n a.root a.total a.way a.right a.colour a.key p q a.other a.tree a.blacks,
  off_range a.right,
  link_is a.root a.way,
  way_block m n a.root,
)

pub lift_rooms : (s : View) (link p q side : ℕ) → HasLift s link p q side → ∥ ((image : List ℕ) × RestsOn s image) ∥₁ →
    LiftRooms s.size link p q side
lift_rooms s link p q side h ws =
    let f : (w : (image : List ℕ) × RestsOn s image) → LiftRooms s.size link p q side =
    λ w. rw w.1.size at (rooms_at (mem s w.0) (length w.0) link p q side (omega (arith, h.room, w.1.size))
    (h.under w.0 w.1)) in
    record {
      link_in = some_le _ _ ws (λ w. (f w).link_in);
      node = some_le _ _ ws (λ w. (f w).node);
      node_low = some_le _ _ ws (λ w. (f w).node_low);
      beside = some_le _ _ ws (λ w. (f w).beside);
      low = some_le _ _ ws (λ w. (f w).low);
      high = some_le _ _ ws (λ w. (f w).high);
    }

pub leads_outer : (s : View) (link p q side : ℕ) → HasLift s link p q side → ∥ ((image : List ℕ) × RestsOn s image) ∥₁ →
    LeadsToBlock s (q + (3 - side))
leads_outer s link p q side h ws = grind (
  arith,
  nat_tests,
  lift_rooms s link p q side h ws,
  beside_node,
  off_across,
  pointer,
)

pub leads_inner : (s : View) (link p q side : ℕ) → HasLift s link p q side → ∥ ((image : List ℕ) × RestsOn s image) ∥₁ →
    LeadsToBlock s (q + side)
leads_inner s link p q side h ws = grind (arith, nat_tests, lift_rooms s link p q side h ws, beside_node, pointer)

pub lifted_outer : (s s1 s2 s3 s4 s5 : View) (link p q side z v : ℕ) (red : Bool) → Reached s s1 (q + (3 - side)) z →
    Coloured s1 s2 z red → red ≡ true → Loaded s2 s3 (p + 3) v → Raising s3 s4 link p q (3 - side) v 0 →
    Stored s4 s5 (z + 3) 0 → Lifted s s5 link p q side true
lifted_outer s s1 s2 s3 s4 s5 link p q side z v red r c e l rise w = record {
  kept = kept_both s s2 s5 (kept_both s s1 s2 r.loaded.kept c.kept)
      (kept_both s2 s3 s5 l.kept (kept_both s3 s4 s5 rise.kept w.kept));
  ends = λ _ image i root total way right col k o t h at.
      let i4 = w.kept.seen image i in let i3 = rise.kept.seen image i4 in let i2 = l.kept.seen image i3 in let i1 =
      c.kept.seen image i2 in
      let w2 : s2.writes ≡ s.writes = c.writes ∙ r.loaded.writes in
      let one : mem s image (z + 3) ≡ 1 = rw r.loaded.writes at (c.is_one e image i2) in
      let up' : Rising (mem s image) (mem s4 image) link p q (3 - side) v 0 =
      rw (l.writes ∙ w2) at (rise.rising image i4) in
      lift_outer (mem s image) (mem s4 image) (mem s5 image)
      (length image) root total link p q side way right col k o t h z v at
      (r.loaded.answer image i1) (c.there e) one (at_start s s2 s3 (p + 3) v w2 l image i3) up' (w.written image);
  goes = λ x. absurd_red x;
}

pub lifted_inner : (s s1 s2 s3 s4 s5 s6 s7 : View) (link p q side z y v : ℕ) (red red' : Bool) →
    Reached s s1 (q + (3 - side)) z → Coloured s1 s2 z red → Reached s2 s3 (q + side) y → Coloured s3 s4 y red' →
    red' ≡ true → Loaded s4 s5 (p + 3) v → Rotated s5 s6 (p + (3 - side)) q y side →
    Raising s6 s7 link p y (3 - side) v 0 → Lifted s s7 link p q side true
lifted_inner s s1 s2 s3 s4 s5 s6 s7 link p q side z y v red red' r c r' c' e l turn rise = record {
  kept = kept_both s s4 s7 (kept_both s s2 s4 (kept_both s s1 s2 r.loaded.kept c.kept)
      (kept_both s2 s3 s4 r'.loaded.kept c'.kept)) (kept_both s4 s5 s7 l.kept (kept_both s5 s6 s7 turn.kept rise.kept));
  ends = λ _ image i root total way right col k o t h at.
      let i6 = rise.kept.seen image i in let i5 = turn.kept.seen image i6 in let i4 = l.kept.seen image i5 in let i3 =
      c'.kept.seen image i4 in
      let w2 : s2.writes ≡ s.writes = c.writes ∙ r.loaded.writes in
      let w3 : s3.writes ≡ s.writes = r'.loaded.writes ∙ w2 in
      let w4 : s4.writes ≡ s.writes = c'.writes ∙ w3 in
      let one : mem s image (y + 3) ≡ 1 = rw w3 at (c'.is_one e image i4) in
      let turn' : Turning (mem s image) (mem s6 image) (p + (3 - side)) q y side =
      rw (l.writes ∙ w4) at (turn.turning image i6) in
      lift_inner (mem s image) (mem s6 image) (mem s7 image)
      (length image) root total link p q side way right col k o t h y v at
      (at_start s s2 s3 (q + side) y w2 r'.loaded image i3) (c'.there e) one
      (at_start s s4 s5 (p + 3) v w4 l image i5) turn' (rise.rising image i);
  goes = λ x. absurd_red x;
}

-- none of the two below is red
pub record NoneSeen (s s4 : View) (q side : ℕ) : Type 0 where
  pub kept : Kept s s4
  pub writes : s4.writes ≡ s.writes
  pub none : (image : List ℕ) → Sees s4 image → NoneRed (mem s image) q side

pub none_seen : (s s1 s2 s3 s4 : View) (q side z y : ℕ) (red red' : Bool) → Reached s s1 (q + (3 - side)) z →
    Coloured s1 s2 z red → red ≡ false → Reached s2 s3 (q + side) y → Coloured s3 s4 y red' → red' ≡ false →
    NoneSeen s s4 q side
none_seen s s1 s2 s3 s4 q side z y red red' r c e r' c' e' =
    grind (
      arith,
      nat_tests,
      kept_both s s2 s4 (kept_both s s1 s2 r.loaded.kept c.kept)
          (kept_both s2 s3 s4 r'.loaded.kept c'.kept),
      kept_both s s1 s2 r.loaded.kept c.kept,
      kept_both s2 s3 s4 r'.loaded.kept c'.kept,
      at_start s s2 s3 (q + side) y,
    )

pub lifted_red : (s s4 s5 s6 s7 : View) (link p q side : ℕ) (red : Bool) → NoneSeen s s4 q side → Coloured s4 s5 p red →
    red ≡ true → Stored s5 s6 (q + 3) 1 → Stored s6 s7 (p + 3) 0 → Lifted s s7 link p q side true
lifted_red s s4 s5 s6 s7 link p q side red none c e w1 w2 = record {
  kept = kept_both s s4 s7 none.kept (kept_both s4 s5 s7 c.kept (kept_both s5 s6 s7 w1.kept w2.kept));
  ends = λ _ image i root total way right col k o t h at.
      let i6 = w2.kept.seen image i in let i5 = w1.kept.seen image i6 in let i4 = c.kept.seen image i5 in
      let one : mem s image (p + 3) ≡ 1 = rw none.writes at (c.is_one e image i5) in
      let first : IsWrite (mem s image) (mem s6 image) (q + 3) 1 =
      write_at_start s s5 s6 (q + 3) 1 (c.writes ∙ none.writes) w1 image i6 in
      lift_red (mem s image) (mem s6 image) (mem s7 image) (length image) root total link p q side way right col k o t h
      at (none.none image i4) (one_true col (sym at.zip.way.0.colour ∙ one)) first (w2.written image);
  goes = λ x. absurd_red x;
}

pub lifted_black : (s s4 s5 s6 : View) (link p q side : ℕ) (red : Bool) → NoneSeen s s4 q side → Coloured s4 s5 p red →
    red ≡ false → p ≢ 0 → Stored s5 s6 (q + 3) 1 → Lifted s s6 link p q side false
lifted_black s s4 s5 s6 link p q side red none c e some w1 = record {
  kept = kept_both s s4 s6 none.kept (kept_both s4 s5 s6 c.kept w1.kept);
  ends = λ x. absurd_red (sym x);
  goes = λ _ image i root total way right col k o t h at.
      let i5 = w1.kept.seen image i in let i4 = c.kept.seen image i5 in
      let not_one : mem s image (p + 3) ≢ 1 = λ x. c.is_none e some image i5 (rw (← none.writes) at x) in
      let black : col ≡ false = one_false col (λ x. not_one (at.zip.way.0.colour ∙ x)) in
      let first : IsWrite (mem s image) (mem s6 image) (q + 3) 1 =
      write_at_start s s5 s6 (q + 3) 1 (c.writes ∙ none.writes) w1 image i in (
        black,
        lift_black (mem s image) (mem s6 image) (length image) root total link p q side way right col k o t h at
            (none.none image i4) black first,
      );
}

-- the last step of the path
pub record OneUp (m : ℕ → ℕ) (n root : ℕ) (total : ℕ → ℕ) (xs : List ℕ) (d : ℕ) (w : Way) (t : Tree) (h : ℕ) :
    Type 0 where
  pub right : Bool
  pub colour : Bool
  pub key : ℕ
  pub other : Tree
  pub up : Way
  pub is : w ≡ step right colour (key, (slice_index xs d - slice_index xs d % 8)) other up
  pub side : (slice_index xs d % 8) ≡ off right
  pub above : slice_index xs (d - 1) ≡ link_of root up
  pub path : IsPath xs root up
  pub deep : d - 1 ≡ depth up

pub one_up : (m : ℕ → ℕ) (n root : ℕ) (total : ℕ → ℕ) (xs : List ℕ) (d : ℕ) (w : Way) (t : Tree) (h : ℕ) →
    ShortAt m n root total xs d w t h → 1 ≤ d → OneUp m n root total xs d w t h
one_up m n root total xs d top t h a one = absurd (omega (arith, a.deep))
one_up m n root total xs d (step right c (k, b) o w) t h a one =
    grind (
      arith,
      nat_tests,
      link_at n (slice_index xs d) b right a.zip.way.0.block
          (ap (slice_index xs) a.deep ∙ a.path.0),
      up,
      path_at xs root w a.path.1,
    )

pub lift_at : (m : ℕ → ℕ) (n root : ℕ) (total : ℕ → ℕ) (xs : List ℕ) (d q : ℕ) (w : Way) (t : Tree) (h : ℕ) →
    (a : ShortAt m n root total xs d w t h) → (u : OneUp m n root total xs d w t h) →
    m (slice_index xs d - slice_index xs d % 8 + (3 - slice_index xs d % 8)) ≡ q → (q ≢ 0 → m (q + 3) ≢ 1) →
    LiftAt m n root total (slice_index xs (d - 1)) (slice_index xs d - slice_index xs d % 8) q
    (slice_index xs d % 8) u.up u.right u.colour u.key u.other t h
lift_at m n root total xs d q w t h a u e never = grind (
  arith,
  nat_tests,
  off_across u.right,
  link_is,
  not_red m n q u.other,
)

-- a red node beside comes up
pub record RedStep (m m1 : ℕ → ℕ) (n root : ℕ) (total : ℕ → ℕ) (q p side : ℕ) (w : Way) (t : Tree) (h : ℕ) :
    Type 0 where
  pub up : Way
  pub right : Bool
  pub key : ℕ
  pub other : Tree
  pub at : LiftAt m1 n root total (q + side) p (m1 (p + (3 - side))) side up right true key other t h
  pub is : rows (plug (step right true (key, p) other up) t) ≡ rows (plug w t)
  pub touches : Touches m m1 root total

red_step_at : (m m1 : ℕ → ℕ) (n root : ℕ) (total : ℕ → ℕ) (right c : Bool) (k p : ℕ) (inner : Tree) (kq q : ℕ)
    (outer : Tree) (w : Way) (t : Tree) (h link side : ℕ) → Zip m n root total
    (step right c (k, p) (join right true inner (kq, q) outer) w) t →
    Short (step right c (k, p) (join right true inner (kq, q) outer) w) t h
    → link ≡ link_of root w → side ≡ off right → Rising m m1 link p q (3 - side) 0 1 →
    RedStep m m1 n root total q p side (step right c (k, p) (join right true inner (kq, q) outer) w) t h
red_step_at m m1 n root total false true k p inner kq q outer w t h link side z s el es rise =
    absurd_red (s.fits.0 refl).1
red_step_at m m1 n root total false false k p inner kq q outer w t h link side z s el es rise =
    let far : 3 - side ≡ off true = ap (λ (x : ℕ). 3 - x) es in
    let z1 : Zip m n root total w (node false t (k, p) (node true inner (kq, q) outer)) =
    up m n root total w false false t (k, p) (node true inner (kq, q) outer) z in
    let x = risen m m1 n root total w true false true false true outer kq q inner k p t link
    (3 - side) 0 1 z1 el far refl refl rise in
    let z2 = down m1 n root total w false false (node true t (k, p) inner) (kq, q) outer x.0 in
    let z3 = down m1 n root total (step false false (kq, q) outer w) false true t (k, p) inner z2 in
    record {
      up = step false false (kq, q) outer w;
      right = false;
      key = k;
      other = inner;
      at = record {
        zip = z3;
        link_is = ap (λ (x : ℕ). q + x) es;
        side_is = es;
        beside_is = ap (λ (x : ℕ). m1 (p + x)) (sym far);
        black = (s.fits.1.0 refl).0;
        short = mend_red false (k, p) inner (kq, q) outer w t h s;
      };
      is = plug_rows w (node false t (k, p) (node true inner (kq, q) outer))
          (node false (node true t (k, p) inner) (kq, q) outer) (simp append_assoc);
      touches = x.1;
    }
red_step_at m m1 n root total true true k p inner kq q outer w t h link side z s el es rise =
    absurd_red (s.fits.0 refl).1
red_step_at m m1 n root total true false k p inner kq q outer w t h link side z s el es rise =
    let far : 3 - side ≡ off false = ap (λ (x : ℕ). 3 - x) es in
    let z1 : Zip m n root total w (node false (node true outer (kq, q) inner) (k, p) t) =
    up m n root total w true false t (k, p) (node true outer (kq, q) inner) z in
    let x = risen m m1 n root total w false false true false true outer kq q inner k p t link
    (3 - side) 0 1 z1 el far refl refl rise in
    let z2 = down m1 n root total w true false (node true inner (k, p) t) (kq, q) outer x.0 in
    let z3 = down m1 n root total (step true false (kq, q) outer w) true true t (k, p) inner z2 in
    record {
      up = step true false (kq, q) outer w;
      right = true;
      key = k;
      other = inner;
      at = record {
        zip = z3;
        link_is = ap (λ (x : ℕ). q + x) es;
        side_is = es;
        beside_is = ap (λ (x : ℕ). m1 (p + x)) (sym far);
        black = (s.fits.1.0 refl).1;
        short = mend_red true (k, p) inner (kq, q) outer w t h s;
      };
      is = plug_rows w (node false (node true outer (kq, q) inner) (k, p) t)
          (node false outer (kq, q) (node true inner (k, p) t)) (simp append_assoc);
      touches = x.1;
    }

pub red_step : (m m1 : ℕ → ℕ) (n root : ℕ) (total : ℕ → ℕ) (xs : List ℕ) (d q : ℕ) (w : Way) (t : Tree) (h : ℕ) →
    ShortAt m n root total xs d w t h → 1 ≤ d → m (slice_index xs d - slice_index xs d % 8 + (3 - slice_index xs d % 8))
    ≡ q → q ≢ 0 → m (q + 3) ≡ 1 → Rising m m1 (slice_index xs (d - 1)) (slice_index xs d - slice_index xs d % 8) q
    (3 - (slice_index xs d % 8)) 0 1 → RedStep m m1 n root total q (slice_index xs d - slice_index xs d % 8)
    (slice_index xs d % 8) w t h
red_step m m1 n root total xs d q w t h a one e some red rise =
    let u = one_up m n root total xs d w t h a one in
    let z : Zip m n root total (step u.right u.colour (u.key, (slice_index xs d - slice_index xs d % 8)) u.other u.up) t
    = rw u.is at a.zip in
    let s : Short (step u.right u.colour (u.key, (slice_index xs d - slice_index xs d % 8)) u.other u.up) t h =
    rw u.is at a.short in
    let far : 3 - (slice_index xs d % 8) ≡ off (not u.right) = ap (λ (x : ℕ). 3 - x) u.side ∙ off_across u.right in
    let at : m ((slice_index xs d - slice_index xs d % 8) + off (not u.right)) ≡ q = rw far at e in
    let b = beside_node m n root total u.up u.right u.colour u.key
    (slice_index xs d - slice_index xs d % 8) q u.other t h z at s in
    let colour : b.colour ≡ true = one_true b.colour (sym b.colour_is ∙ red) in
    let is : u.other ≡ join u.right true b.inner (b.key, q) b.outer =
    b.is ∙ ap (λ (x : Bool). join u.right x b.inner (b.key, q) b.outer) colour in
    let is' : w ≡ step u.right u.colour (u.key, (slice_index xs d - slice_index xs d % 8))
    (join u.right true b.inner (b.key, q) b.outer) u.up =
    u.is ∙ ap (λ (x : Tree). step u.right u.colour (u.key, (slice_index xs d - slice_index xs d % 8)) x u.up) is in
    let f = red_step_at m m1 n root total u.right u.colour u.key
    (slice_index xs d - slice_index xs d % 8) b.inner b.key q b.outer u.up t h (slice_index xs (d - 1))
    (slice_index xs d % 8) (rw is' at a.zip) (rw is' at a.short) u.above u.side rise in
    subst (λ (x : Way). RedStep m m1 n root total q (slice_index xs d - slice_index xs d % 8)
    (slice_index xs d % 8) x t h) (sym is') f

pub short_way : (s : View) (xs : List ℕ) (d : ℕ) → HasShort s xs d → HasWay s xs d
short_way s xs d h = grind (arith, nat_tests)

-- the node beside is black
pub record BlackSeen (s s2 : View) (xs : List ℕ) (d q : ℕ) : Type 0 where
  pub kept : Kept s s2
  pub writes : s2.writes ≡ s.writes
  pub is : (image : List ℕ) → Sees s2 image → mem s image (slice_index xs d - slice_index xs d % 8 +
      (3 - slice_index xs d % 8)) ≡ q
  pub black : (image : List ℕ) → Sees s2 image → q ≢ 0 → mem s image (q + 3) ≢ 1

pub black_seen : (s s1 s2 : View) (xs : List ℕ) (d q : ℕ) (red : Bool) →
    Reached s s1 (slice_index xs d - slice_index xs d % 8 + (3 - slice_index xs d % 8)) q → Coloured s1 s2 q red →
    red ≡ false → BlackSeen s s2 xs d q
black_seen s s1 s2 xs d q red r c e = grind (arith, nat_tests, kept_both s s1 s2 r.loaded.kept c.kept)

pub has_lift : (s s2 : View) (xs : List ℕ) (d q : ℕ) → HasShort s xs d → 1 ≤ d → BlackSeen s s2 xs d q →
    HasLift s2 (slice_index xs (d - 1)) (slice_index xs d - slice_index xs d % 8) q (slice_index xs d % 8)
has_lift s s2 xs d q h one b = record {
  small = omega (arith, h.small, b.kept.size);
  room = omega (arith, h.room, b.kept.size);
  under = λ image i.
      let a = h.under image (stood b.kept image i) in
      let u = one_up (mem s image) (length image) a.root a.total xs d a.way a.tree a.blacks a.at one in
      let l = lift_at (mem s image) (length image) a.root a.total xs d q a.way a.tree a.blacks a.at u
      (b.is image i.sees) (b.black image i.sees) in
      let some : SomeLift (mem s image) (length image) (slice_index xs (d - 1))
      (slice_index xs d - slice_index xs d % 8) q (slice_index xs d % 8) =
      record {
        root = a.root;
        total = a.total;
        way = u.up;
        right = u.right;
        colour = u.colour;
        key = u.key;
        other = u.other;
        tree = a.tree;
        blacks = a.blacks;
        at =
            l;
      } in
      rw b.writes some;
}

pub stepped : (s s2 s3 : View) (xs : List ℕ) (d q : ℕ) (done : Bool) → 1 ≤ d → BlackSeen s s2 xs d q →
    Lifted s2 s3 (slice_index xs (d - 1)) (slice_index xs d - slice_index xs d % 8) q (slice_index xs d % 8) done →
    Stepped s s3 xs d done
stepped s s2 s3 xs d q done one b f = record {
  kept = kept_both s s2 s3 b.kept f.kept;
  ends = λ e image i root total w t h a.
      let i2 = f.kept.seen image i in
      let u = one_up (mem s image) (length image) root total xs d w t h a one in
      let l = lift_at (mem s image) (length image) root total xs d q w t h a u (b.is image i2) (b.black image i2) in
      let l' : LiftAt (mem s2 image) (length image) root total (slice_index xs (d - 1))
      (slice_index xs d - slice_index xs d % 8) q (slice_index xs d % 8) u.up u.right u.colour u.key u.other t h =
      rw b.writes l in
      let r : IsMended (mem s image) (mem s3 image) (length image) root total
      (rows (plug (step u.right u.colour (u.key, (slice_index xs d - slice_index xs d % 8)) u.other u.up) t)) =
      rw b.writes at (f.ends e image i root total u.up u.right u.colour u.key u.other t h l') in
      subst (λ (x : Way). IsMended (mem s image) (mem s3 image) (length image) root total (rows (plug x t)))
      (sym u.is) r;
  goes = λ e image i root total w t h a.
      let i2 = f.kept.seen image i in
      let u = one_up (mem s image) (length image) root total xs d w t h a one in
      let l = lift_at (mem s image) (length image) root total xs d q w t h a u (b.is image i2) (b.black image i2) in
      let l' : LiftAt (mem s2 image) (length image) root total (slice_index xs (d - 1))
      (slice_index xs d - slice_index xs d % 8) q (slice_index xs d % 8) u.up u.right u.colour u.key u.other t h =
      rw b.writes l in
      let r : ShortHere (mem s image) (mem s3 image) (length image) root total u.up
      (rows (plug (step u.right u.colour (u.key, (slice_index xs d - slice_index xs d % 8)) u.other u.up) t)) =
      rw b.writes at (f.goes e image i root total u.up u.right u.colour u.key u.other t h l').1 in
      record {
        way = u.up;
        tree = r.tree;
        blacks = r.blacks;
        at = record { zip = r.zip; path = u.path; deep = u.deep; short = r.short };
        is =
            r.is ∙ ap (λ (x : Way). rows (plug x t)) (sym u.is);
        touches = r.touches;
      };
}

-- the node beside was red, and came up
pub record RedSeen (s s4 : View) (xs : List ℕ) (d q q' : ℕ) : Type 0 where
  pub kept : Kept s s4
  pub goes : (image : List ℕ) → Sees s4 image → (root : ℕ) (total : ℕ → ℕ) (w : Way) (t : Tree) (h : ℕ) →
      ShortAt (mem s image) (length image) root total xs d w t h →
      RedStep (mem s image) (mem s4 image) (length image) root total q (slice_index xs d - slice_index xs d % 8)
      (slice_index xs d % 8) w t h
  pub is : (image : List ℕ) → Sees s4 image → mem s4 image (slice_index xs d - slice_index xs d % 8 +
      (3 - slice_index xs d % 8)) ≡ q'

pub red_seen : (s s1 s2 s3 s4 : View) (xs : List ℕ) (d q q' : ℕ) (red : Bool) → 1 ≤ d →
    Reached s s1 (slice_index xs d - slice_index xs d % 8 + (3 - slice_index xs d % 8)) q → Coloured s1 s2 q red →
    red ≡ true → Raising s2 s3 (slice_index xs (d - 1)) (slice_index xs d - slice_index xs d % 8) q
    (3 - (slice_index xs d % 8)) 0 1 → Reached s3 s4 (slice_index xs d - slice_index xs d % 8 +
    (3 - slice_index xs d % 8)) q' → RedSeen s s4 xs d q q'
red_seen s s1 s2 s3 s4 xs d q q' red one r c e rise r' = record {
  kept = kept_both s s2 s4 (kept_both s s1 s2 r.loaded.kept c.kept) (kept_both s2 s3 s4 rise.kept r'.loaded.kept);
  goes = λ image i root total w t h a.
      let i3 = r'.loaded.kept.seen image i in let i2 = rise.kept.seen image i3 in let i1 = c.kept.seen image i2 in
      let is_red : mem s image (q + 3) ≡ 1 = rw r.loaded.writes at (c.is_one e image i2) in
      let up' : Rising (mem s image) (mem s3 image) (slice_index xs (d - 1)) (slice_index xs d - slice_index xs d % 8) q
      (3 - (slice_index xs d % 8)) 0 1 = rw (c.writes ∙ r.loaded.writes) at (rise.rising image i3) in
      rw r'.loaded.writes (red_step (mem s image) (mem s3 image) (length image) root total xs d q w t h a one
      (r.loaded.answer image i1) (c.there e) is_red up');
  is = λ image i. rw r'.loaded.writes (r'.loaded.answer image i);
}

pub has_lift_red : (s s4 : View) (xs : List ℕ) (d q q' : ℕ) → HasShort s xs d → RedSeen s s4 xs d q q' →
    HasLift s4 (q + (slice_index xs d % 8)) (slice_index xs d - slice_index xs d % 8) q' (slice_index xs d % 8)
has_lift_red s s4 xs d q q' h b = record {
  small = omega (arith, h.small, b.kept.size);
  room = omega (arith, h.room, b.kept.size);
  under = λ image i.
      let a = h.under image (stood b.kept image i) in
      let r = b.goes image i.sees a.root a.total a.way a.tree a.blacks a.at in
      record {
        root = a.root;
        total = a.total;
        way = r.up;
        right = r.right;
        colour = true;
        key = r.key;
        other = r.other;
        tree = a.tree;
        blacks = a.blacks;
        at = subst (λ (x : ℕ). LiftAt (mem s4 image) (length image) a.root a.total (q + (slice_index xs d % 8))
            (slice_index xs d - slice_index xs d % 8) x (slice_index xs d % 8) r.up r.right true r.key r.other a.tree
            a.blacks) (b.is image i.sees) r.at;
      };
}

pub stepped_red : (s s4 s5 : View) (xs : List ℕ) (d q q' : ℕ) (done : Bool) → RedSeen s s4 xs d q q' →
    Lifted s4 s5 (q + (slice_index xs d % 8)) (slice_index xs d - slice_index xs d % 8) q' (slice_index xs d % 8) done →
    Stepped s s5 xs d done
stepped_red s s4 s5 xs d q q' done b f = record {
  kept = kept_both s s4 s5 b.kept f.kept;
  ends = λ e image i root total w t h a.
      let i4 = f.kept.seen image i in
      let r = b.goes image i4 root total w t h a in
      let at = subst (λ (x : ℕ). LiftAt (mem s4 image) (length image) root total (q + (slice_index xs d % 8))
      (slice_index xs d - slice_index xs d % 8) x (slice_index xs d % 8) r.up r.right true r.key r.other t h)
      (b.is image i4) r.at in
      ends_after (mem s image) (mem s4 image) (mem s5 image) (length image) root total _ _ r.touches r.is
      (f.ends e image i root total r.up r.right true r.key r.other t h at);
  goes = λ e image i root total w t h a.
      let i4 = f.kept.seen image i in
      let r = b.goes image i4 root total w t h a in
      let at = subst (λ (x : ℕ). LiftAt (mem s4 image) (length image) root total (q + (slice_index xs d % 8))
      (slice_index xs d - slice_index xs d % 8) x (slice_index xs d % 8) r.up r.right true r.key r.other t h)
      (b.is image i4) r.at in
      absurd_red (f.goes e image i root total r.up r.right true r.key r.other t h at).0;
}

-- the loop
pub record Mending (s0 s : View) (xs : List ℕ) (d0 d : ℕ) : Type 0 where
  pub kept : Kept s0 s
  pub deep : d < 40
  pub goes : (image : List ℕ) → Sees s image → (root : ℕ) (total : ℕ → ℕ) (w : Way) (t : Tree) (h : ℕ) →
      ShortAt (mem s0 image) (length image) root total xs d0 w t h →
      ShortUp (mem s0 image) (mem s image) (length image) root total xs d (rows (plug w t))

pub mend_start : (s : View) (xs : List ℕ) (d : ℕ) → HasShort s xs d → Mending s s xs d d
mend_start s xs d h = grind (arith, nat_tests, kept_none s, touches_none)

pub short_now : (s0 s : View) (xs : List ℕ) (d0 d : ℕ) → HasShort s0 xs d0 → Mending s0 s xs d0 d → HasShort s xs d
short_now s0 s xs d0 d h t = record {
  small = omega (arith, h.small, t.kept.size);
  room = omega (arith, h.room, t.kept.size);
  size = h.size;
  deep = t.deep;
  under = λ image i.
      let a = h.under image (stood t.kept image i) in
      let r = t.goes image i.sees a.root a.total a.way a.tree a.blacks a.at in
      record { root = a.root; total = a.total; way = r.way; tree = r.tree; blacks = r.blacks; at = r.at };
}

pub mend_done : (s0 s s1 : View) (xs : List ℕ) (d0 d : ℕ) (done : Bool) → Mending s0 s xs d0 d →
    Stepped s s1 xs d done → done ≡ true → Mended s0 s1 xs d0
mend_done s0 s s1 xs d0 d done t f e = record {
  kept = kept_both s0 s s1 t.kept f.kept;
  ends = λ image i root total w t' h a.
      let r = t.goes image (f.kept.seen image i) root total w t' h a in
      ends_after (mem s0 image) (mem s image) (mem s1 image) (length image) root total _ _ r.touches r.is
      (f.ends e image i root total r.way r.tree r.blacks r.at);
}

pub mend_up : (s0 s s1 : View) (xs : List ℕ) (d0 d : ℕ) (done : Bool) → Mending s0 s xs d0 d → Stepped s s1 xs d done →
    done ≡ false → Mending s0 s1 xs d0 (d - 1)
mend_up s0 s s1 xs d0 d done t f e = record {
  kept = kept_both s0 s s1 t.kept f.kept;
  deep = omega (arith, t.deep);
  goes = λ image i root total w t' h a.
      let r = t.goes image (f.kept.seen image i) root total w t' h a in
      let g = f.goes e image i root total r.way r.tree r.blacks r.at in
      record {
        way = g.way;
        tree = g.tree;
        blacks = g.blacks;
        at = g.at;
        is = g.is ∙ r.is;
        touches = touches_both (mem s0 image) (mem s image)
            (mem s1 image) root total r.touches g.touches;
      };
}

short_top : (m m' : ℕ → ℕ) (n root : ℕ) (total : ℕ → ℕ) (xs : List ℕ) (w : Way) (t : Tree) (h : ℕ) (rs : Rows) →
    ShortAt m' n root total xs 0 w t h → rows (plug w t) ≡ rs → Touches m m' root total → IsMended m m' n root total rs
short_top m m' n root total xs top t h rs a is touches = grind (arith, nat_tests)
short_top m m' n root total xs (step right c x o w) t h rs a is touches = absurd (omega (arith, a.deep))

pub mend_top : (s0 s : View) (xs : List ℕ) (d0 d : ℕ) → Mending s0 s xs d0 d → d ≡ 0 → Mended s0 s xs d0
mend_top s0 s xs d0 d t z = record {
  kept = t.kept;
  ends = λ image i root total w t' h a.
      let r = t.goes image i root total w t' h a in
      short_top (mem s0 image) (mem s image) (length image) root total xs r.way r.tree r.blacks (rows (plug w t'))
      (rw z at r.at) r.is r.touches;
}

-- after the red node came up, the word on the other side leads to its inner child
pub raised_leads : (s s1 s2 s3 : View) (xs : List ℕ) (d q : ℕ) (red : Bool) → HasShort s xs d → 1 ≤ d →
    Reached s s1 (slice_index xs d - slice_index xs d % 8 + (3 - slice_index xs d % 8)) q → Coloured s1 s2 q red →
    red ≡ true → Raising s2 s3 (slice_index xs (d - 1)) (slice_index xs d - slice_index xs d % 8) q
    (3 - (slice_index xs d % 8)) 0 1 → ∥ ((image : List ℕ) × RestsOn s3 image) ∥₁ →
    LeadsToBlock s3 (slice_index xs d - slice_index xs d % 8 + (3 - slice_index xs d % 8))
raised_leads s s1 s2 s3 xs d q red h one r c e rise ws =
    let room : slice_index xs d - slice_index xs d % 8 + (3 - slice_index xs d % 8) + 1 ≤ s3.size = some_le _ _ ws (λ w.
    let i2 = stood rise.kept w.0 w.1 in let i1 = stood c.kept w.0 i2 in let i0 = stood r.loaded.kept w.0 i1 in
    let a = h.under w.0 i0 in
    let u = one_up (mem s w.0) (length w.0) a.root a.total xs d a.way a.tree a.blacks a.at one in
    let z : Zip (mem s w.0) (length w.0) a.root a.total (step u.right u.colour (
      u.key,
      (slice_index xs d - slice_index xs d % 8),
    ) u.other u.up) a.tree = rw u.is at a.at.zip in
    omega (arith, z.way.0.block.1.0, w.1.size, u.side, off_range u.right)) in
    record {
      small = omega (arith, h.small, rise.kept.size, c.kept.size, r.loaded.kept.size);
      room = omega arith;
      under = λ image i ne.
          let i2 = stood rise.kept image i in let i1 = stood c.kept image i2 in let i0 = stood r.loaded.kept image i1 in
          let a = h.under image i0 in
          let is_red : mem s image (q + 3) ≡ 1 = rw r.loaded.writes at (c.is_one e image i2.sees) in
          let up' : Rising (mem s image) (mem s3 image) (slice_index xs (d - 1))
          (slice_index xs d - slice_index xs d % 8) q (3 - (slice_index xs d % 8)) 0 1 =
          rw (c.writes ∙ r.loaded.writes) at (rise.rising image i.sees) in
          let f = red_step (mem s image) (mem s3 image) (length image) a.root a.total xs d q a.way a.tree a.blacks a.at
          one (r.loaded.answer image i1.sees) (c.there e) is_red up' in
          (beside_node (mem s3 image) (length image) a.root a.total f.up f.right true f.key
          (slice_index xs d - slice_index xs d % 8) (mem s3 image
          (slice_index xs d - slice_index xs d % 8 + (3 - slice_index xs d % 8))) f.other a.tree a.blacks f.at.zip
          f.at.beside_is f.at.short).block;
    }
