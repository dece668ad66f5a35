-- The search for a key, over every memory that there may be.
use Rattle.std.proofs.Common.{◌≡◌, ◌≢◌, inl, inr, ℕ, ◌+◌, ◌<◌, ◌≤◌, ◌^◌, Bool, true, false, List, [], ◌∷◌, ◌++◌, length}
use Rattle.std.proofs.Common.{slice_index, slice_set, refl, sym, ap, ◌∙◌, subst, arith, append_assoc, get_or-set_same}
use Rattle.std.proofs.Common.{get_or-set_other, length-set}
use Rattle.std.proofs.lemmas.Bool.{cases_lt}
use Rattle.std.proofs.Math.Pow.{pow_mono}
use Rattle.std.proofs.Math.Nat.{mul-le-mul}
use Rattle.tx_memory.specs.Seen.{some_le}
use Rattle.tx_memory.specs.View.{View, Words, RestsOn, Loaded, memory}
use Rattle.tx_alloc.specs.Pool.{IsBlock}
use Rattle.tx_alloc.specs.Steps.{mem, kept_none, kept_both, stood, at_start}
use Rattle.tx_alloc.specs.Rows.{Rows, times, AllBelow, IsFrom}
use Rattle.tx_tree.specs.Tree.{Tree, leaf, node, rows, IsEven, IsApart, is_red, height}
use Rattle.tx_tree.specs.Way.{Way, top, step, plug, depth, front, behind}
use Rattle.tx_tree.specs.Hangs.{has, off, link_of, Zip}
use Rattle.tx_tree.specs.Table.{Table, HasTable}
use Rattle.tx_alloc.specs.Pointer.{LeadsToBlock}
use Rattle.tx_tree.specs.Steps.{Reached, IsPath, PlaceOfKey, Seeking}
use Rattle.tx_tree.proofs.Shapes.{rows_plug, depth_plug, height_log}
use Rattle.tx_alloc.proofs.Order.{below_higher, Split, split, below_both, times_both}
use Rattle.tx_tree.proofs.Zipped.{down, link_is, way_block}
use Rattle.tx_tree.proofs.Moves.{Opened, opened, pointer}

pub has_times : (t : Tree) (x : ℕ) → has x t ≡ times x (rows t)
has_times leaf x = refl
has_times (node c l r t) x =
    let i = has_times l x in let j = has_times t x in let b = times_both x (rows l) (r ∷ rows t) in
    omega arith

-- the words of the way stand in the path, and writing behind them keeps that
pub path_at : (xs : List ℕ) (root : ℕ) (w : Way) → IsPath xs root w → slice_index xs (depth w) ≡ link_of root w
path_at xs root top h = h
path_at xs root (step right c r o w) h = h.0

pub path_set : (xs : List ℕ) (root : ℕ) (w : Way) (i v : ℕ) → depth w < i → IsPath xs root w →
    IsPath (slice_set xs i v) root w
path_set xs root top i v l h = get_or-set_other xs i 0 v 0 (omega arith) ∙ h
path_set xs root (step right c r o w) i v l h =
    (get_or-set_other xs i (depth w + 1) v 0 (omega arith) ∙ h.0, path_set xs root w i v (omega arith) h.1)

-- the first link is set
pub start_link : (xs ys : List ℕ) (root : ℕ) → length ys ≡ 40 → ys ≡ slice_set xs 0 root → slice_index ys 0 ≡ root
start_link xs ys root l e =
    let n : length xs ≡ 40 = sym (length-set xs 0 root) ∙ (ap length (sym e) ∙ l) in
    ap (λ (zs : List ℕ). slice_index zs 0) e ∙ get_or-set_same xs 0 root 0 (omega (arith, n))

pub path_step : (xs : List ℕ) (root : ℕ) (w : Way) (d : ℕ) (right c : Bool) (k b : ℕ) (o : Tree) → d ≡ depth w →
    d + 1 < length xs → IsPath xs root w → IsPath (slice_set xs (d + 1) (b + off right)) root (step right c (k, b) o w)
path_step xs root w d right c k b o e l h =
    let e' : depth w + 1 ≡ d + 1 = omega arith in
    (rw e' (get_or-set_same xs (d + 1) (b + off right) 0 l), path_set xs root w (d + 1) (b + off right) (omega arith) h)

-- a table of at most 262,144 rows has at most 36 nodes on a way down
pub low_tree : (t : Tree) → IsEven t → IsApart t → is_red t ≡ false → length (rows t) ≤ 262144 → height t ≤ 36
low_tree t even apart black few = elim (cases_lt 36 (height t)) [
  | inl more ↦ (
      let more' : 37 ≤ height t = omega arith in
      let a : 2 ^ 37 ≤ 2 ^ height t = pow_mono more' in
      let b = height_log t even apart black in
      let c : length (rows t) + 1 ≤ 262145 = omega arith in
      let d = mul-le-mul c c in
      absurd (omega (arith, a, b, d)))
  | inr le ↦ le
]

pub place_start : (m : ℕ → ℕ) (n root key : ℕ) (xs : List ℕ) (rs : Rows) → root < 16 → slice_index xs 0 ≡ root →
    Table m n root rs → PlaceOfKey m n root key xs 0 rs
place_start m n root key xs rs low at t = record {
  way = top;
  tree = t.table.tree;
  zip = record {
    way = tt;
    tree = t.table.hangs;
    count = λ x. omega (
      arith,
      has_times t.table.tree x,
      ap (times x) t.table.is,
    );
    once = t.table.once;
    low = low;
  };
  path = at;
  deep = refl;
  is = t.table.is;
  even = t.table.even;
  apart = t.table.apart;
  black = t.table.black;
  below = tt;
  above = tt;
}

-- where the search stands the rows ascend
pub split_here : (w : Way) (c : Bool) (l : Tree) (r : ℕ × ℕ) (t : Tree) (rs : Rows) →
    rows (plug w (node c l r t)) ≡ rs → IsFrom 0 rs → Split 0 (front w ++ rows l) r (rows t ++ behind w)
split_here w c l r t rs is from =
    let e : rs ≡ (front w ++ rows l) ++ (r ∷ (rows t ++ behind w)) =
    sym is ∙ (rows_plug w (node c l r t) ∙ simp append_assoc) in
    split 0 (front w ++ rows l) r (rows t ++ behind w) (subst (λ (x : Rows). IsFrom 0 x) e from)

pub below_right : (k : ℕ) (xs ys : Rows) → AllBelow k (xs ++ ys) → AllBelow k ys
below_right k [] ys h = h
below_right k (x ∷ xs) ys h = below_right k xs ys h.1

-- what stands at the end of the way, if there is something
pub place_node : (m : ℕ → ℕ) (n root key p : ℕ) (xs : List ℕ) (d : ℕ) (rs : Rows) →
    (h : PlaceOfKey m n root key xs d rs) →
    m (slice_index xs d) ≡ p → p ≢ 0 → Opened m n p h.tree
place_node m n root key p xs d rs h e ne =
    let at : slice_index xs d ≡ link_of root h.way = ap (slice_index xs) h.deep ∙ path_at xs root h.way h.path in
    let e' : m (link_of root h.way) ≡ p = ap m (sym at) ∙ e in
    opened m n p h.tree (rw e' at h.zip.tree) ne

go_down : (m : ℕ → ℕ) (n root key p : ℕ) (xs : List ℕ) (d : ℕ) (rs : Rows) (w : Way) (c : Bool) (l t : Tree) →
    Zip m n root (λ x. times x rs) w (node c l (m p, p) t) → IsPath xs root w → d ≡ depth w →
    rows (plug w (node c l (m p, p) t)) ≡ rs → IsEven (plug w (node c l (m p, p) t)) →
    IsApart (plug w (node c l (m p, p) t)) → is_red (plug w (node c l (m p, p) t)) ≡ false → AllBelow key (front w) →
    IsFrom (key + 1) (behind w)
    → IsFrom 0 rs → d + 1 < length xs → (right : Bool) → (right ≡ false → key < m p) → (right ≡ true → m p < key) →
    PlaceOfKey m n root key (slice_set xs (d + 1) (p + off right)) (d + 1) rs
go_down m n root key p xs d rs w c l t z path deep is even apart black below above from room false less more =
    let s = split_here w c l (m p, p) t rs is from in
    record {
      way = step false c (m p, p) t w;
      tree = l;
      zip = down m n root (λ x. times x rs) w false c l (m p, p) t z;
      path = path_step xs root w d false c (m p) p t deep room path;
      deep = omega arith;
      is = is;
      even = even;
      apart = apart;
      black = black;
      below = below;
      above = (omega (arith, less refl), s.after);
    }
go_down m n root key p xs d rs w c l t z path deep is even apart black below above from room true less more =
    let s = split_here w c l (m p, p) t rs is from in
    let k : m p < key = more refl in
    record {
      way = step true c (m p, p) l w;
      tree = t;
      zip = down m n root (λ x. times x rs) w true c t (m p, p) l z;
      path = path_step xs root w d true c (m p) p l deep room path;
      deep = omega arith;
      is = is;
      even = even;
      apart = apart;
      black = black;
      below = below_both key (front w) (rows l ++ ((m p, p) ∷ [])) below
          (below_both key (rows l) ((m p, p) ∷ []) (below_higher (m p) key (rows l) (omega arith)
          (below_right (m p) (front w) (rows l) s.before)) (k, tt));
      above = above;
    }

pub place_down : (m : ℕ → ℕ) (n root key p : ℕ) (xs : List ℕ) (d : ℕ) (rs : Rows) → PlaceOfKey m n root key xs d rs →
    m (slice_index xs d) ≡ p → p ≢ 0 → IsFrom 0 rs → d + 1 < length xs → (right : Bool) → (right ≡ false → key < m p) →
    (right ≡ true → m p < key) → PlaceOfKey m n root key (slice_set xs (d + 1) (p + off right)) (d + 1) rs
place_down m n root key p xs d rs h e ne from room right less more =
    let o = place_node m n root key p xs d rs h e ne in
    go_down m n root key p xs d rs h.way o.colour o.left o.right (rw o.is at h.zip) h.path h.deep (rw o.is at h.is)
    (rw o.is at h.even) (rw o.is at h.apart) (rw o.is at h.black) h.below h.above from room right less more

pub place_low : (m : ℕ → ℕ) (n root key p : ℕ) (xs : List ℕ) (d : ℕ) (rs : Rows) → PlaceOfKey m n root key xs d rs →
    m (slice_index xs d) ≡ p → p ≢ 0 → length rs ≤ 262144 → d + 1 ≤ 36
place_low m n root key p xs d rs h e ne few =
    let o = place_node m n root key p xs d rs h e ne in
    let low = low_tree (plug h.way h.tree) h.even h.apart h.black (rw h.is few) in
    let some : 1 ≤ height h.tree = rw o.is (omega arith) in
    omega (arith, depth_plug h.way h.tree, h.deep)

pub seek_start : (s : View) (root key : ℕ) (xs : List ℕ) → HasTable s root → length xs ≡ 40 → slice_index xs 0 ≡ root →
    Seeking s s root key xs 0
seek_start s root key xs has size at = record {
  kept = kept_none s;
  writes = refl;
  deep = omega arith;
  size = size;
  place = λ image rs i t. place_start (mem s image) (length image) root key xs rs has.low at t;
}

pub link_room : (m : ℕ → ℕ) (n root key : ℕ) (xs : List ℕ) (d : ℕ) (rs : Rows) → PlaceOfKey m n root key xs d rs →
    16 ≤ n →
    slice_index xs d < n
link_room m n root key xs d rs h room =
    let at : slice_index xs d ≡ link_of root h.way = ap (slice_index xs) h.deep ∙ path_at xs root h.way h.path in
    elim (link_is root h.way) [
      | inl e ↦ omega (arith, at, e, h.zip.low)
      | inr i ↦ (let b = way_block m n root i.block h.way h.zip.way i.there in omega (arith, at, i.is, i.high, b.1.0))
    ]

pub seek_leads : (s0 s : View) (root key : ℕ) (xs : List ℕ) (d : ℕ) → HasTable s0 root → Seeking s0 s root key xs d →
    ∥ ((image : List ℕ) × RestsOn s image) ∥₁ → LeadsToBlock s (slice_index xs d)
seek_leads s0 s root key xs d table k ws = record {
  small = omega (arith, table.small, k.kept.size);
  room = (
      let r : slice_index xs d + 1 ≤ s.size = some_le (slice_index xs d + 1) s.size ws (λ w.
      let t = table.under w.0 (stood k.kept w.0 w.1) in
      let p = k.place w.0 t.entries w.1.sees t.is in
      omega (
        arith,
        link_room (mem s0 w.0) (length w.0) root key xs d t.entries p
            (omega (arith, table.room, k.kept.size, w.1.size)),
        w.1.size,
      )) in
      omega arith);
  under = λ image i ne.
      let t = table.under image (stood k.kept image i) in
      let p = k.place image t.entries i.sees t.is in
      let at : slice_index xs d ≡ link_of root p.way = ap (slice_index xs) p.deep ∙ path_at xs root p.way p.path in
      let same : mem s image (slice_index xs d) ≡ mem s0 image (link_of root p.way) =
      ap (λ (w : Words). memory image w (slice_index xs d)) k.writes ∙ ap (mem s0 image) at in
      subst (λ (x : ℕ). IsBlock (length image) x) (sym same)
      (pointer (mem s0 image) (length image) (mem s0 image (link_of root p.way)) p.tree p.zip.tree
      (λ z. ne (same ∙ z)));
}

pub seek_low : (s0 s s1 : View) (root key : ℕ) (xs : List ℕ) (d p : ℕ) → HasTable s0 root → Seeking s0 s root key xs d →
    Reached s s1 (slice_index xs d) p → p ≢ 0 → ∥ ((image : List ℕ) × RestsOn s1 image) ∥₁ → d + 1 ≤ 36
seek_low s0 s s1 root key xs d p table k r ne ws = some_le (d + 1) 36 ws (λ w.
    let i = stood r.loaded.kept w.0 w.1 in
    let t = table.under w.0 (stood k.kept w.0 i) in
    place_low (mem s0 w.0) (length w.0) root key p xs d t.entries (k.place w.0 t.entries i.sees t.is)
    (at_start s0 s s1 (slice_index xs d) p k.writes r.loaded w.0 w.1.sees) ne t.is.few)

pub seek_step : (s0 s s1 s2 : View) (root key : ℕ) (xs : List ℕ) (d p found : ℕ) (right : Bool) →
    Seeking s0 s root key xs d → Reached s s1 (slice_index xs d) p → p ≢ 0 → Loaded s1 s2 p found → d + 1 ≤ 36 →
    (right ≡ false → key < found) → (right ≡ true → found < key) →
    Seeking s0 s2 root key (slice_set xs (d + 1) (p + off right)) (d + 1)
seek_step s0 s s1 s2 root key xs d p found right k r ne l low less more = record {
  kept = kept_both s0 s s2 k.kept (kept_both s s1 s2 r.loaded.kept l.kept);
  writes = l.writes ∙ (r.loaded.writes ∙ k.writes);
  deep = omega arith;
  size = length-set xs (d + 1) (p + off right) ∙ k.size;
  place = λ image rs i t.
      let i1 = l.kept.seen image i in let i0 = r.loaded.kept.seen image i1 in
      let key_is : mem s0 image p ≡ found = at_start s0 s1 s2 p found (r.loaded.writes ∙ k.writes) l image i in
      place_down (mem s0 image) (length image) root key p xs d rs (k.place image rs i0 t)
      (at_start s0 s s1 (slice_index xs d) p k.writes r.loaded image i1) ne t.table.ascending
      (omega (arith, k.size))
      right (λ e. omega (arith, less e, key_is)) (λ e. omega (arith, more e, key_is));
}

pub seek_left : (s0 s s1 s2 : View) (root key : ℕ) (xs : List ℕ) (d p found side : ℕ) → Seeking s0 s root key xs d →
    Reached s s1 (slice_index xs d) p → p ≢ 0 → Loaded s1 s2 p found → d + 1 ≤ 36 → side ≡ 1 → key < found →
    Seeking s0 s2 root key (slice_set xs (d + 1) (p + side)) (d + 1)
seek_left s0 s s1 s2 root key xs d p found side k r ne l low e less =
    rw e (seek_step s0 s s1 s2 root key xs d p found false k r ne l low (λ _. less) (λ z. cc))

pub seek_right : (s0 s s1 s2 : View) (root key : ℕ) (xs : List ℕ) (d p found side : ℕ) → Seeking s0 s root key xs d →
    Reached s s1 (slice_index xs d) p → p ≢ 0 → Loaded s1 s2 p found → d + 1 ≤ 36 → side ≡ 2 → found < key →
    Seeking s0 s2 root key (slice_set xs (d + 1) (p + side)) (d + 1)
seek_right s0 s s1 s2 root key xs d p found side k r ne l low e more =
    rw e (seek_step s0 s s1 s2 root key xs d p found true k r ne l low (λ z. cc) (λ _. more))
