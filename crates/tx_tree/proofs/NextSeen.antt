-- The least node of the right side takes the place of a node that goes, over every memory that there may be.
use Rattle.std.proofs.Common.{◌≡◌, ◌≢◌, ℕ, ◌+◌, ◌<◌, Bool, true, false, cond, [], ◌++◌, List, length, slice_index}
use Rattle.std.proofs.Common.{slice_set, refl, sym, ap, ◌∙◌, subst, arith, get_or-set_same, get_or-set_other}
use Rattle.tx_memory.specs.View.{View, Loaded, Stored, IsWrite}
use Rattle.tx_alloc.specs.Steps.{mem, kept_both, write_at_start}
use Rattle.tx_alloc.specs.Rows.{Rows}
use Rattle.tx_tree.specs.Tree.{Tree, leaf, node, rows}
use Rattle.tx_tree.specs.Way.{Way, top, step, plug, depth, under, front, behind, IsEvenWay, IsApartWay}
use Rattle.tx_tree.specs.Balance.{Sound}
use Rattle.tx_tree.specs.Hangs.{Hangs, link_of, Zip, Touches, without_block}
use Rattle.tx_tree.specs.Steps.{IsPath}
use Rattle.tx_tree.specs.Mending.{IsMended}
use Rattle.tx_tree.specs.Lowest.{SpanAt, LowAt}
use Rattle.tx_tree.specs.Removal.{LooseAt}
use Rattle.tx_tree.specs.Next.{Replacing, Replaced, BothAt, GoneEnds}
use Rattle.tx_tree.proofs.Shapes.{apart_black}
use Rattle.tx_tree.proofs.Zipped.{down}
use Rattle.tx_tree.proofs.Writes.{touches_none, touches_both, touches_more}
use Rattle.tx_tree.proofs.Moves.{no_tree}
use Rattle.tx_tree.proofs.Seeking.{path_at, path_set, path_step}
use Rattle.tx_tree.proofs.Ending.{ends_sound}
use Rattle.tx_tree.proofs.Next.{NextParts, next_parts, next_rows, next_gone}

pub replaced_by : (s s1 s2 s3 s4 s5 s6 s7 : View) (link a b v1 v2 v3 : ℕ) → Loaded s s1 (a + 1) v1 →
    Stored s1 s2 (b + 1) v1 → Loaded s2 s3 (a + 2) v2 → Stored s3 s4 (b + 2) v2 → Loaded s4 s5 (a + 3) v3 →
    Stored s5 s6 (b + 3) v3 → Stored s6 s7 link b → Replaced s s7 link a b
replaced_by s s1 s2 s3 s4 s5 s6 s7 link a b v1 v2 v3 l1 w1 l2 w2 l3 w3 w4 = record {
  kept = kept_both s s4 s7 (kept_both s s2 s4 (kept_both s s1 s2 l1.kept w1.kept) (kept_both s2 s3 s4 l2.kept w2.kept))
      (kept_both s4 s6 s7 (kept_both s4 s5 s6 l3.kept w3.kept) w4.kept);
  replacing = λ image i7.
      let i6 = w4.kept.seen image i7 in let i5 = w3.kept.seen image i6 in let i4 = l3.kept.seen image i5 in
      let i3 = w2.kept.seen image i4 in let i2 = l2.kept.seen image i3 in let i1 = w1.kept.seen image i2 in
      record {
        ma = mem s2 image;
        mb = mem s4 image;
        mc = mem s6 image;
        v1 = v1;
        v2 = v2;
        v3 = v3;
        e1 = l1.answer image i1;
        w1 = write_at_start s s1 s2 (b + 1) v1 l1.writes w1 image i2;
        e2 = l2.answer image i3;
        w2 = write_at_start s2 s3 s4 (b + 2) v2 l2.writes w2 image i4;
        e3 = l3.answer image i5;
        w3 = write_at_start s4 s5 s6 (b + 3) v3 l3.writes w3 image i6;
        w4 = w4.written image;
      };
}

depth_under : (v w : Way) → depth (under v w) ≡ depth v + depth w
depth_under top w = omega arith
depth_under (step s c x o v) w = let i = depth_under v w in omega arith

-- the path after the node in the midst of the way was replaced
pub path_swap : (xs : List ℕ) (root : ℕ) (v : Way) (c : Bool) (k b kn q : ℕ) (l : Tree) (w : Way) (i : ℕ) →
    i ≡ depth w + 1 → i < length xs → IsPath xs root (under v (step true c (k, b) l w)) →
    IsPath (slice_set xs i (q + 2)) root (under v (step true c (kn, q) l w))
path_swap xs root top c k b kn q l w i e room h =
    (rw (← e) (get_or-set_same xs i (q + 2) 0 room), path_set xs root w i (q + 2) (omega arith) h.1)
path_swap xs root (step s' c' x' o' v) c k b kn q l w i e room h =
    let d1 = depth_under v (step true c (k, b) l w) in
    let d2 = depth_under v (step true c (kn, q) l w) in
    let same : depth (under v (step true c (kn, q) l w)) ≡ depth (under v (step true c (k, b) l w)) = omega arith in (
      rw same (get_or-set_other xs i (depth (under v (step true c (k, b) l w)) + 1) (q + 2) 0 (omega (arith, d1)) ∙
          h.0),
      path_swap xs root v c k b kn q l w i e room h.1,
    )

same_pointer : (m m' : ℕ → ℕ) (n p p' : ℕ) (t : Tree) → Hangs m n p t → Hangs m' n p' t → p' ≡ p
same_pointer m m' n p p' leaf h h' = h' ∙ sym h
same_pointer m m' n p p' (node c l r t) h h' = h'.0.at ∙ sym h.0.at

pub span_of : (m : ℕ → ℕ) (n root : ℕ) (total : ℕ → ℕ) (xs : List ℕ) (d b : ℕ) (w : Way) (c : Bool) (l : Tree) (k : ℕ)
    (t : Tree) (h : ℕ) → BothAt m n root total xs d b w c l k t h → d + 1 < length xs →
    SpanAt m n root total (slice_set xs (d + 1) (b + 2)) (d + 1) (step true c (k, b) l w) t
span_of m n root total xs d b w c l k t h a room = record {
  zip = down m n root total w true c t (k, b) l a.zip;
  path = path_step xs root w d true c k b l a.deep room a.path;
  deep = omega (arith, a.deep);
  some = λ e. a.some (sym (ap m (get_or-set_same xs (d + 1) (b + 2) 0 room)) ∙ e);
  tall = a.tall;
}

-- the node's place, after the least one of its right side came there
pub record NextAt (m m' : ℕ → ℕ) (n root : ℕ) (total : ℕ → ℕ) (xs' : List ℕ) (d d' b q child : ℕ) (w : Way) (c : Bool)
    (l t : Tree) : Type 0 where
  pub way : Way
  pub colour : Bool
  pub key : ℕ
  pub right : Tree
  pub zip : Zip m' n root (without_block total b) (under way (step true c (key, q) l w)) right
  pub path : IsPath (slice_set xs' (d + 1) (q + 2)) root (under way (step true c (key, q) l w))
  pub deep : d' ≡ depth (under way (step true c (key, q) l w))
  pub parts : NextParts way c colour (key, q) l w right
  pub is : rows (plug (under way (step true c (key, q) l w)) right) ≡ front w ++ ((rows l ++ rows t) ++ behind w)
  pub touches : Touches m m' root total
  pub colour_is : m (q + 3) ≡ cond colour 1 0
  pub leads : m' (slice_index (slice_set xs' (d + 1) (q + 2)) d') ≡ child

next_leaf : (m m1 m' : ℕ → ℕ) (n root : ℕ) (total : ℕ → ℕ) (xs xs' : List ℕ) (d d' b q child : ℕ) (w : Way) (c : Bool)
    (l : Tree) (k : ℕ) (t : Tree) (h : ℕ) (v : Way) (cn : Bool) (kn : ℕ) (r : Tree) →
    BothAt m n root total xs d b w c l k t h
    → Zip m n root total (under v (step true c (k, b) l w)) (node cn leaf (kn, q) r) →
    plug v (node cn leaf (kn, q) r) ≡ t → IsPath xs' root (under v (step true c (k, b) l w)) →
    d' ≡ depth (under v (step true c (k, b) l w)) → front v ≡ []
    → m (q + 2) ≡ child → IsWrite m m1 (slice_index xs' d') child → Replacing m1 m' (slice_index xs d) b q →
    d + 1 < length xs' → NextAt m m' n root total xs' d d' b q child w c l t
next_leaf m m1 m' n root total xs xs' d d' b q child w c l k t h v cn kn r a z is path deep first ch w0 rp room =
    let e0 : slice_index xs' d' ≡ link_of root (under v (step true c (k, b) l w)) =
    ap (slice_index xs') deep ∙ path_at xs' root (under v (step true c (k, b) l w)) path in
    let e1 : slice_index xs d ≡ link_of root w = ap (slice_index xs) a.deep ∙ path_at xs root w a.path in
    let w0' : IsWrite m m1 (link_of root (under v (step true c (k, b) l w))) child = rw e0 at w0 in
    let w4' : IsWrite rp.mc m' (link_of root w) q = rw e1 at rp.w4 in
    let g = next_gone m m1 rp.ma rp.mb rp.mc m' n root total v c cn k b kn q l w r child rp.v1 rp.v2 rp.v3 z
    (sym ch) w0' rp.e1 rp.w1 rp.e2 rp.w2 rp.e3 rp.w3 w4' in
    let path' = path_swap xs' root v c k b kn q l w (d + 1) (omega (arith, a.deep)) room path in
    let deep' : d' ≡ depth (under v (step true c (kn, q) l w)) =
    omega (arith, deep, depth_under v (step true c (k, b) l w), depth_under v (step true c (kn, q) l w)) in
    let at : slice_index (slice_set xs' (d + 1) (q + 2)) d' ≡ link_of root (under v (step true c (kn, q) l w)) =
    ap (slice_index (slice_set xs' (d + 1) (q + 2))) deep' ∙ path_at (slice_set xs' (d + 1) (q + 2)) root
    (under v (step true c (kn, q) l w)) path' in
    record {
      way = v;
      colour = cn;
      key = kn;
      right = r;
      zip = g.0;
      path = path';
      deep = deep';
      parts = next_parts v c cn (kn, q) (k, b) l t w r h a.sound is;
      is = next_rows v c cn (kn, q) l t w r first is;
      touches = g.1;
      colour_is = z.tree.0.colour;
      leads = ap m' at ∙ (same_pointer m m' n (m (q + 2)) (m' (link_of root (under v (step true c (kn, q) l w)))) r
          z.tree.1.1 g.0.tree ∙ ch);
    }

pub next_at : (m m1 m' : ℕ → ℕ) (n root : ℕ) (total : ℕ → ℕ) (xs xs' : List ℕ) (d d' b q child : ℕ) (w : Way) (c : Bool)
    (l : Tree) (k : ℕ) (t : Tree) (h : ℕ) → BothAt m n root total xs d b w c l k t h →
    LowAt m n root total xs' d' q (step true c (k, b) l w) t → m (q + 1) ≡ 0
    → m (q + 2) ≡ child → IsWrite m m1 (slice_index xs' d') child → Replacing m1 m' (slice_index xs d) b q →
    d + 1 < length xs' → NextAt m m' n root total xs' d d' b q child w c l t
next_at m m1 m' n root total xs xs' d d' b q child w c l k t h a low none ch w0 rp room =
    let e = no_tree m n (m (q + 1)) low.left low.zip.tree.1.0 none in
    let z : Zip m n root total (under low.way (step true c (k, b) l w)) (node low.colour leaf (low.key, q) low.right) =
    rw e at low.zip in
    let is : plug low.way (node low.colour leaf (low.key, q) low.right) ≡ t = rw e at low.is in
    next_leaf m m1 m' n root total xs xs' d d' b q child w c l k t h low.way low.colour low.key low.right a z is
    low.path low.deep low.first ch w0 rp room

one_true : (c : Bool) → cond {A = ℕ} c 1 0 ≡ 1 → c ≡ true
one_true true e = refl
one_true false e = absurd (omega arith)

one_false : (c : Bool) → cond {A = ℕ} c 1 0 ≢ 1 → c ≡ false
one_false true ne = absurd (ne refl)
one_false false ne = refl

pub next_loose : (m m' : ℕ → ℕ) (n root : ℕ) (total : ℕ → ℕ) (xs' : List ℕ) (d d' b q child : ℕ) (w : Way) (c : Bool)
    (l t : Tree) → (a : NextAt m m' n root total xs' d d' b q child w c l t) → m (q + 3) ≢ 1 →
    LooseAt m' n root (without_block total b) (slice_set xs' (d + 1) (q + 2)) d' child
    (under a.way (step true c (a.key, q) l w)) a.right 0
next_loose m m' n root total xs' d d' b q child w c l t a ne =
    let black : a.colour ≡ false = one_false a.colour (λ x. ne (a.colour_is ∙ x)) in
    record {
      zip = a.zip;
      path = a.path;
      deep = a.deep;
      leads = a.leads;
      even = (a.parts.even, a.parts.none);
      way = subst (λ (x : Bool). IsEvenWay (under a.way (step true c (a.key, q) l w)) (cond x 0 1)) black a.parts.way;
      apart = a.parts.apart;
      fits = subst (λ (x : Bool). IsApartWay (under a.way (step true c (a.key, q) l w)) x) black a.parts.fits;
    }

pub next_red : (m m' : ℕ → ℕ) (n root : ℕ) (total : ℕ → ℕ) (xs' : List ℕ) (d d' b q child : ℕ) (w : Way) (c : Bool)
    (l t : Tree) → NextAt m m' n root total xs' d d' b q child w c l t → m (q + 3) ≡ 1 →
    GoneEnds m m' n root total b (front w ++ ((rows l ++ rows t) ++ behind w))
next_red m m' n root total xs' d d' b q child w c l t a one =
    let red : a.colour ≡ true = one_true a.colour (sym a.colour_is ∙ one) in
    let black = a.parts.black red in
    let fits : IsApartWay (under a.way (step true c (a.key, q) l w)) true =
    subst (λ (x : Bool). IsApartWay (under a.way (step true c (a.key, q) l w)) x) red a.parts.fits in
    let sound : Sound (under a.way (step true c (a.key, q) l w)) a.right 0 = record {
      even = (a.parts.even, a.parts.none);
      way = subst (λ (x : Bool). IsEvenWay (under a.way (step true c (a.key, q) l w)) (cond x 0 1)) red a.parts.way;
      apart = a.parts.apart;
      fits = rw black (apart_black (under a.way (step true c (a.key, q) l w)) true fits);
    } in
    let e = ends_sound m' m' n root (without_block total b) (under a.way (step true c (a.key, q) l w)) a.right 0
    (front w ++ ((rows l ++ rows t) ++ behind w)) a.zip sound a.is (touches_none m' root (without_block total b)) in
    record {
      tree = e.tree;
      zip = e.zip;
      even = e.even;
      apart = e.apart;
      black = e.black;
      is = e.is;
      touches = a.touches;
    }

pub next_black : (m m' m'' : ℕ → ℕ) (n root : ℕ) (total : ℕ → ℕ) (b : ℕ) (rs rs' : Rows) → Touches m m' root total →
    rs ≡ rs' → IsMended m' m'' n root (without_block total b) rs → GoneEnds m m'' n root total b rs'
next_black m m' m'' n root total b rs rs' t is e = record {
  tree = e.tree;
  zip = e.zip;
  even = e.even;
  apart = e.apart;
  black = e.black;
  is = e.is ∙ is;
  touches =
      touches_both m m' m'' root total t (touches_more m' m'' root (without_block total b) total
      (λ x. omega arith) e.touches);
}
