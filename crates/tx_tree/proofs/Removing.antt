-- A removal: a node with one side at most goes, and the tree is mended.
use Rattle.std.proofs.Common.{◌≡◌, ◌≢◌, inl, inr, ℕ, ◌+◌, ◌≤◌, Bool, true, false, List, length, slice_index, refl, sym}
use Rattle.std.proofs.Common.{ap, ◌∙◌, arith, rules}
use Rattle.tx_memory.specs.Seen.{some_le}
use Rattle.tx_memory.specs.View.{View, RestsOn, Stored, IsWrite}
use Rattle.tx_alloc.specs.Pool.{IsBlock}
use Rattle.tx_alloc.specs.Steps.{mem, kept_both, stood, write_at_start}
use Rattle.tx_tree.specs.Tree.{Tree, leaf, node, join, rows, blacks, is_red, EvenAt}
use Rattle.tx_tree.specs.Way.{Way, plug, depth}
use Rattle.tx_tree.specs.Hangs.{Hangs, link_of, Zip, Touches, without_block}
use Rattle.tx_tree.specs.Steps.{IsPath, Coloured}
use Rattle.tx_tree.specs.Mending.{IsMended, ShortAt, HasShort, Mended}
use Rattle.tx_tree.specs.Removal.{LooseAt, HasLoose, Lightened, LastAt, HasLast, Unlinked}
use Rattle.tx_tree.proofs.Shapes.{plug_rows, apart_black}
use Rattle.tx_tree.proofs.Zipped.{link_is, way_block}
use Rattle.tx_tree.proofs.Writes.{touch_link, painted, at_join}
use Rattle.tx_tree.proofs.Moves.{unlinked, pointer}
use Rattle.tx_tree.proofs.Seeking.{path_at}
use Rattle.tx_tree.proofs.Ending.{ends_sound, ends_after}
use Rattle.tx_tree.proofs.Raised.{not_red, red_node}

absurd_red : {A : Type 0} → true ≡ false → A
absurd_red e = cc

at_link : (xs : List ℕ) (root d : ℕ) (w : Way) → IsPath xs root w → d ≡ depth w → slice_index xs d ≡ link_of root w
at_link xs root d w path e = ap (slice_index xs) e ∙ path_at xs root w path

loose_hangs : (m : ℕ → ℕ) (n root : ℕ) (total : ℕ → ℕ) (xs : List ℕ) (d p : ℕ) (w : Way) (t : Tree) (h : ℕ) →
    LooseAt m n root total xs d p w t h → Hangs m n p t
loose_hangs m n root total xs d p w t h a = rw (sym (ap m (at_link xs root d w a.path a.deep)) ∙ a.leads) at a.zip.tree

red_even : (l : Tree) (r : ℕ × ℕ) (t : Tree) (h : ℕ) → EvenAt (node true l r t) h → EvenAt (node false l r t) (h + 1)
red_even l r t h e = search rules

paint_loose : (m m' : ℕ → ℕ) (n root : ℕ) (total : ℕ → ℕ) (xs : List ℕ) (d p : ℕ) (w : Way) (l : Tree) (k : ℕ)
    (r : Tree) (h : ℕ) → LooseAt m n root total xs d p w (node true l (k, p) r) h → IsWrite m m' (p + 3) 0 →
    IsMended m m' n root total (rows (plug w (node true l (k, p) r)))
paint_loose m m' n root total xs d p w l k r h a write =
    let x = painted m m' n root total w true false l k p r a.zip write in
    ends_sound m m' n root total w (node false l (k, p) r) (h + 1) _ x.0
    (record {
      even = red_even l (k, p) r h a.even;
      way = a.way;
      apart = ((λ e. absurd_red (sym e)), a.apart.1, a.apart.2);
      fits =
          a.fits;
    }) (plug_rows w (node true l (k, p) r) (node false l (k, p) r) refl) x.1

pub loose_red : (m m' : ℕ → ℕ) (n root : ℕ) (total : ℕ → ℕ) (xs : List ℕ) (d p : ℕ) (w : Way) (t : Tree) (h : ℕ) →
    LooseAt m n root total xs d p w t h → p ≢ 0 → m (p + 3) ≡ 1 → IsWrite m m' (p + 3) 0 →
    IsMended m m' n root total (rows (plug w t))
loose_red m m' n root total xs d p w t h a some one write =
    let r = red_node m n p t (loose_hangs m n root total xs d p w t h a) some one in
    let a' : LooseAt m n root total xs d p w (node true r.left (r.key, p) r.right) h = rw r.is at a in
    rw r.is (paint_loose m m' n root total xs d p w r.left r.key r.right h a' write)

pub loose_short : (m : ℕ → ℕ) (n root : ℕ) (total : ℕ → ℕ) (xs : List ℕ) (d p : ℕ) (w : Way) (t : Tree) (h : ℕ) →
    LooseAt m n root total xs d p w t h → (p ≢ 0 → m (p + 3) ≢ 1) → ShortAt m n root total xs d w t h
loose_short m n root total xs d p w t h a never = record {
  zip = a.zip;
  path = a.path;
  deep = a.deep;
  short = record {
    even = a.even;
    way = a.way;
    apart = a.apart;
    fits = a.fits;
    black = not_red m n p t (loose_hangs m n root total xs d p w t h a) never;
  };
}

pub loose_room : (s : View) (xs : List ℕ) (d p : ℕ) → HasLoose s xs d p → p ≢ 0 →
    ∥ ((image : List ℕ) × RestsOn s image) ∥₁ → p + 8 ≤ s.size
loose_room s xs d p h ne ws = some_le (p + 8) s.size ws (λ w.
    let a = h.under w.0 w.1 in
    omega (
      arith,
      (pointer (mem s w.0) (length w.0) p a.tree
          (loose_hangs (mem s w.0) (length w.0) a.root a.total xs d p a.way a.tree a.blacks a.at) ne).1.0,
      w.1.size,
    ))

pub lightened_red : (s s1 s2 : View) (xs : List ℕ) (d p : ℕ) (red : Bool) → Coloured s s1 p red → red ≡ true →
    Stored s1 s2 (p + 3) 0 → Lightened s s2 xs d p
lightened_red s s1 s2 xs d p red c e w = record {
  kept = kept_both s s1 s2 c.kept w.kept;
  ends = λ image i root total way t h a.
      let i1 = w.kept.seen image i in
      loose_red (mem s image) (mem s2 image) (length image) root total xs d p way t h a (c.there e)
      (c.is_one e image i1) (write_at_start s s1 s2 (p + 3) 0 c.writes w image i);
}

pub loose_has_short : (s s1 : View) (xs : List ℕ) (d p : ℕ) (red : Bool) → HasLoose s xs d p → Coloured s s1 p red →
    red ≡ false → HasShort s1 xs d
loose_has_short s s1 xs d p red h c e = record {
  small = omega (arith, h.small, c.kept.size);
  room = omega (arith, h.room, c.kept.size);
  size = h.size;
  deep = h.deep;
  under = λ image i.
      let a = h.under image (stood c.kept image i) in
      rw c.writes (record {
        root = a.root;
        total = a.total;
        way = a.way;
        tree = a.tree;
        blacks = a.blacks;
        at = loose_short (mem s image)
            (length image) a.root a.total xs d p a.way a.tree a.blacks a.at (λ ne. c.is_none e ne image i.sees);
      });
}

pub lightened_black : (s s1 s2 : View) (xs : List ℕ) (d p : ℕ) (red : Bool) → Coloured s s1 p red → red ≡ false →
    Mended s1 s2 xs d → Lightened s s2 xs d p
lightened_black s s1 s2 xs d p red c e f = record {
  kept = kept_both s s1 s2 c.kept f.kept;
  ends = λ image i root total way t h a.
      let i1 = f.kept.seen image i in
      let sh = loose_short (mem s image) (length image) root total xs d p way t h a (λ ne. c.is_none e ne image i1) in
      let sh' : ShortAt (mem s1 image) (length image) root total xs d way t h = rw c.writes sh in
      rw c.writes at (f.ends image i root total way t h sh');
}

-- the node's place is taken
record Gone (m m' : ℕ → ℕ) (n root : ℕ) (total : ℕ → ℕ) (xs : List ℕ) (d b p : ℕ) (w : Way) (t : Tree) : Type 0 where
  pub zip : Zip m' n root (without_block total b) w t
  pub touches : Touches m m' root (without_block total b)
  pub leads : m' (slice_index xs d) ≡ p

gone : (m m' : ℕ → ℕ) (n root : ℕ) (total : ℕ → ℕ) (xs : List ℕ) (d b p : ℕ) (w : Way) (right c : Bool) (k : ℕ)
    (t : Tree) (h : ℕ) → LastAt m n root total xs d b p w right c k t h → IsWrite m m' (slice_index xs d) p →
    Gone m m' n root total xs d b p w t
gone m m' n root total xs d b p w right c k t h a write =
    let e = at_link xs root d w a.path a.deep in
    let write' : IsWrite m m' (link_of root w) p = rw e at write in
    let x = unlinked m m' n root total w right c k b t p a.zip (sym a.leads) write' in
    record {
      zip = x.0;
      touches = touch_link m m' root (without_block total b) w p write' (λ y. omega (arith, x.0.count y));
      leads = write.here;
    }

loose_after : (m m' : ℕ → ℕ) (n root : ℕ) (total : ℕ → ℕ) (xs : List ℕ) (d b p : ℕ) (w : Way) (right c : Bool) (k : ℕ)
    (t : Tree) (h : ℕ) → LastAt m n root total xs d b p w right c k t h → c ≡ false →
    Gone m m' n root total xs d b p w t → LooseAt m' n root (without_block total b) xs d p w t (blacks t)
loose_after m m' n root total xs d b p w right true k t h a e g = absurd_red e
loose_after m m' n root total xs d b p w false false k t h a e g = record {
  zip = g.zip;
  path = a.path;
  deep = a.deep;
  leads = g.leads;
  even = (a.sound.even.0.2, refl);
  way = (let q : blacks t + 1 ≡ h = ap (λ (x : ℕ). x + 1) (sym a.sound.even.0.0) ∙ a.sound.even.1 in rw q a.sound.way);
  apart = a.sound.apart.2;
  fits = a.sound.fits;
}
loose_after m m' n root total xs d b p w true false k t h a e g = record {
  zip = g.zip;
  path = a.path;
  deep = a.deep;
  leads = g.leads;
  even = (a.sound.even.0.1, refl);
  way = (let q : blacks t + 1 ≡ h = a.sound.even.1 in rw q a.sound.way);
  apart = a.sound.apart.1;
  fits = a.sound.fits;
}

red_after : (m m' : ℕ → ℕ) (n root : ℕ) (total : ℕ → ℕ) (xs : List ℕ) (d b p : ℕ) (w : Way) (right c : Bool) (k : ℕ)
    (t : Tree) (h : ℕ) → LastAt m n root total xs d b p w right c k t h → c ≡ true →
    Gone m m' n root total xs d b p w t → IsMended m m' n root (without_block total b) (rows (plug w t))
red_after m m' n root total xs d b p w right false k t h a e g = absurd_red (sym e)
red_after m m' n root total xs d b p w false true k t h a e g =
    let q : blacks t ≡ h = omega (arith, a.sound.even.0.0, a.sound.even.1) in
    let black : is_red t ≡ false = (a.sound.apart.0 refl).1 in
    ends_sound m m' n root (without_block total b) w t (blacks t) (rows (plug w t)) g.zip
    (record {
      even = (a.sound.even.0.2, refl);
      way = rw q a.sound.way;
      apart = a.sound.apart.2;
      fits = rw black (apart_black w true a.sound.fits);
    }) refl g.touches
red_after m m' n root total xs d b p w true true k t h a e g =
    let q : blacks t ≡ h = omega (arith, a.sound.even.0.0, a.sound.even.1) in
    let black : is_red t ≡ false = (a.sound.apart.0 refl).0 in
    ends_sound m m' n root (without_block total b) w t (blacks t) (rows (plug w t)) g.zip
    (record {
      even = (a.sound.even.0.1, refl);
      way = rw q a.sound.way;
      apart = a.sound.apart.1;
      fits = rw black (apart_black w true a.sound.fits);
    }) refl g.touches

join_colour : (m : ℕ → ℕ) (n root : ℕ) (total : ℕ → ℕ) (w : Way) (right c : Bool) (near : Tree) (k b : ℕ) (far : Tree) →
    Zip m n root total w (join right c near (k, b) far) → (m (b + 3) ≡ 1 → c ≡ true) × (m (b + 3) ≢ 1 → c ≡ false)
join_colour m n root total w false true near k b far z = ((λ _. refl), λ ne. absurd (ne z.tree.0.colour))
join_colour m n root total w true true near k b far z = ((λ _. refl), λ ne. absurd (ne z.tree.0.colour))
join_colour m n root total w false false near k b far z = (
  (λ one. absurd (omega (arith, one, z.tree.0.colour))),
  λ _. refl,
)
join_colour m n root total w true false near k b far z = (
  (λ one. absurd (omega (arith, one, z.tree.0.colour))),
  λ _. refl,
)

pub unlinked_red : (s s1 s2 : View) (xs : List ℕ) (d b p : ℕ) (red : Bool) → Coloured s s1 b red → red ≡ true →
    Stored s1 s2 (slice_index xs d) p → Unlinked s s2 xs d b p
unlinked_red s s1 s2 xs d b p red c e w = record {
  kept = kept_both s s1 s2 c.kept w.kept;
  ends = λ image i root total way right col k t h a.
      let i1 = w.kept.seen image i in
      let g = gone (mem s image) (mem s2 image) (length image) root total xs d b p way right col k t h a
      (write_at_start s s1 s2 _ p c.writes w image i) in
      red_after (mem s image) (mem s2 image) (length image) root total xs d b p way right col k t h a
      ((join_colour (mem s image) (length image) root total way right col leaf k b t a.zip).0 (c.is_one e image i1))
      g;
}

pub last_block : (s : View) (xs : List ℕ) (d b p : ℕ) → HasLast s xs d b p → (image : List ℕ) → RestsOn s image →
    IsBlock (length image) b
last_block s xs d b p h image i =
    let a = h.under image i in
    (at_join (mem s image) (length image) a.root a.total a.way a.right a.colour leaf a.key b a.tree a.at.zip).block

pub last_room : (s : View) (xs : List ℕ) (d b p : ℕ) → HasLast s xs d b p → ∥ ((image : List ℕ) × RestsOn s image) ∥₁ →
    (16 ≤ b) × (b + 8 ≤ s.size)
last_room s xs d b p h ws = (
  some_le 16 b ws (λ w. omega (arith, (last_block s xs d b p h w.0 w.1).1.1)),
  some_le (b + 8) s.size ws (λ w. omega (arith, (last_block s xs d b p h w.0 w.1).1.0, w.1.size)),
)

pub last_link : (s : View) (xs : List ℕ) (d b p : ℕ) → HasLast s xs d b p → ∥ ((image : List ℕ) × RestsOn s image) ∥₁ →
    slice_index xs d + 1 ≤ s.size
last_link s xs d b p h ws = some_le (slice_index xs d + 1) s.size ws (λ w.
    let a = h.under w.0 w.1 in
    let at = at_link xs a.root d a.way a.at.path a.at.deep in
    elim (link_is a.root a.way) [
      | inl e ↦ omega (arith, at, e, a.at.zip.low, h.room)
      | inr i ↦ (let x = way_block (mem s w.0) (length w.0) a.root i.block a.way a.at.zip.way i.there in
          omega (arith, at, i.is, i.high, x.1.0, w.1.size))
    ])

pub loose_now : (s s1 s2 : View) (xs : List ℕ) (d b p : ℕ) (red : Bool) → HasLast s xs d b p → b ≢ 0 →
    Coloured s s1 b red → red ≡ false → Stored s1 s2 (slice_index xs d) p → HasLoose s2 xs d p
loose_now s s1 s2 xs d b p red h some c e w = record {
  small = omega (arith, h.small, c.kept.size, w.kept.size);
  room = omega (arith, h.room, c.kept.size, w.kept.size);
  size = h.size;
  deep = h.deep;
  under = λ image i.
      let i1 = stood w.kept image i in
      let a = h.under image (stood c.kept image i1) in
      let g = gone (mem s image) (mem s2 image) (length image) a.root a.total xs d b p a.way a.right a.colour a.key
      a.tree a.blacks a.at (write_at_start s s1 s2 _ p c.writes w image i.sees) in
      let black = (join_colour (mem s image) (length image) a.root a.total a.way a.right a.colour leaf a.key b a.tree
      a.at.zip).1 (c.is_none e some image i1.sees) in
      record {
        root = a.root;
        total = without_block a.total b;
        way = a.way;
        tree = a.tree;
        blacks = blacks a.tree;
        at = loose_after (mem s image) (mem s2 image)
            (length image) a.root a.total xs d b p a.way a.right a.colour a.key a.tree a.blacks a.at black g;
      };
}

pub unlinked_black : (s s1 s2 s3 : View) (xs : List ℕ) (d b p : ℕ) (red : Bool) → b ≢ 0 → Coloured s s1 b red →
    red ≡ false → Stored s1 s2 (slice_index xs d) p → Lightened s2 s3 xs d p → Unlinked s s3 xs d b p
unlinked_black s s1 s2 s3 xs d b p red some c e w f = record {
  kept = kept_both s s1 s3 c.kept (kept_both s1 s2 s3 w.kept f.kept);
  ends = λ image i root total way right col k t h a.
      let i2 = f.kept.seen image i in let i1 = w.kept.seen image i2 in
      let g = gone (mem s image) (mem s2 image) (length image) root total xs d b p way right col k t h a
      (write_at_start s s1 s2 _ p c.writes w image i2) in
      let black = (join_colour (mem s image) (length image) root total way right col leaf k b t a.zip).1
      (c.is_none e some image i1) in
      let l = loose_after (mem s image) (mem s2 image) (length image) root total xs d b p way right col k t h a black g
      in
      ends_after (mem s image) (mem s2 image) (mem s3 image) (length image) root
      (without_block total b) _ _ g.touches refl
      (f.ends image i root (without_block total b) way t (blacks t) l);
}
