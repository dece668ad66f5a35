-- The way down to a key with no path kept: to the block of a key, and to the least key above one.
use Rattle.std.proofs.Common.{◌≡◌, ◌≢◌, inl, inr, ℕ, ◌+◌, ◌<◌, ◌≤◌, Bool, true, false, cond, List, [], ◌∷◌, ◌++◌}
use Rattle.std.proofs.Common.{Option, Some, None, nat_lt, MatchOption, length, refl, sym, ap, ◌∙◌, subst, arith}
use Rattle.std.proofs.Common.{append_assoc}
use Rattle.std.proofs.lemmas.Bool.Decides.{nat_tests}
use Rattle.tx_memory.specs.Seen.{some_le}
use Rattle.tx_memory.specs.View.{View, Words, Sees, RestsOn, Kept, Loaded, memory}
use Rattle.tx_alloc.specs.Pool.{IsBlock}
use Rattle.tx_alloc.specs.Steps.{mem, kept_none, kept_both, stood, at_start}
use Rattle.tx_alloc.specs.Rows.{Rows, times, block_at, AllBelow, IsFrom}
use Rattle.tx_tree.specs.Tree.{Tree, node, rows, IsEven, IsApart, is_red}
use Rattle.tx_tree.specs.Way.{Way, top, step, plug, depth, front, behind}
use Rattle.tx_tree.specs.Hangs.{off, link_of, Zip}
use Rattle.tx_tree.specs.Table.{Table, HasTable, IsInside, FoundRow, FoundAt}
use Rattle.tx_alloc.specs.Pointer.{LeadsToBlock}
use Rattle.tx_tree.specs.Steps.{Reached}
use Rattle.tx_tree.proofs.Shapes.{rows_plug, depth_plug}
use Rattle.tx_alloc.proofs.Order.{below_higher, below_both, at_between, none_between}
use Rattle.tx_tree.proofs.Zipped.{down, link_is, way_block}
use Rattle.tx_tree.proofs.Moves.{Opened, opened, pointer, no_tree}
use Rattle.tx_tree.proofs.Seeking.{has_times, low_tree, split_here, below_right}

abbrev pub first_row : Rows → Option (ℕ × ℕ)
first_row [] = None
first_row (r ∷ rs) = Some r

--  the search came to a tree: all rows in front of it are below lo, and all rows behind it above the key, the first of
-- which is next
pub record Spot (m : ℕ → ℕ) (n root lo key link d : ℕ) (next : Option (ℕ × ℕ)) (rs : Rows) : Type 0 where
  pub way : Way
  pub tree : Tree
  pub zip : Zip m n root (λ x. times x rs) way tree
  pub at : link ≡ link_of root way
  pub deep : d ≡ depth way
  pub is : rows (plug way tree) ≡ rs
  pub even : IsEven (plug way tree)
  pub apart : IsApart (plug way tree)
  pub black : is_red (plug way tree) ≡ false
  pub below : AllBelow lo (front way)
  pub above : IsFrom (key + 1) (behind way)
  pub next_is : first_row (behind way) ≡ next

spot_start : (m : ℕ → ℕ) (n root lo key : ℕ) (rs : Rows) → root < 16 → Table m n root rs →
    Spot m n root lo key root 0 None rs
spot_start m n root lo key rs low t = record {
  way = top;
  tree = t.table.tree;
  zip = record {
    way = tt;
    tree = t.table.hangs;
    count = λ x. omega (
      arith,
      has_times t.table.tree x,
      ap (times x) t.table.is,
    );
    once = t.table.once;
    low = low;
  };
  at = refl;
  deep = refl;
  is = t.table.is;
  even = t.table.even;
  apart = t.table.apart;
  black = t.table.black;
  below = tt;
  above = tt;
  next_is = refl;
}

spot_tree : (m : ℕ → ℕ) (n root lo key link d p : ℕ) (next : Option (ℕ × ℕ)) (rs : Rows) →
    (h : Spot m n root lo key link d next rs) → m link ≡ p → p ≢ 0 → Opened m n p h.tree
spot_tree m n root lo key link d p next rs h e ne =
    let e' : m (link_of root h.way) ≡ p = ap m (sym h.at) ∙ e in
    opened m n p h.tree (rw e' at h.zip.tree) ne

spot_leaf : (m : ℕ → ℕ) (n root lo key link d : ℕ) (next : Option (ℕ × ℕ)) (rs : Rows) →
    (h : Spot m n root lo key link d next rs) → m link ≡ 0 → rs ≡ front h.way ++ behind h.way
spot_leaf m n root lo key link d next rs h z =
    let t = no_tree m n (m (link_of root h.way)) h.tree h.zip.tree (ap m (sym h.at) ∙ z) in
    sym h.is ∙ (rows_plug h.way h.tree ∙ ap (λ (x : Tree). front h.way ++ (rows x ++ behind h.way)) t)

go_down : (m : ℕ → ℕ) (n root lo key p d : ℕ) (next : Option (ℕ × ℕ)) (rs : Rows) (w : Way) (c : Bool) (l t : Tree) →
    Zip m n root (λ x. times x rs) w (node c l (m p, p) t) → d ≡ depth w → rows (plug w (node c l (m p, p) t)) ≡ rs →
    IsEven (plug w (node c l (m p, p) t)) → IsApart (plug w (node c l (m p, p) t)) →
    is_red (plug w (node c l (m p, p) t)) ≡ false
    → AllBelow lo (front w) → IsFrom (key + 1) (behind w) → first_row (behind w) ≡ next → IsFrom 0 rs → (right : Bool) →
    (right ≡ false → key < m p) → (right ≡ true → m p < lo) →
    Spot m n root lo key (p + off right) (d + 1) (cond right next (Some (m p, p))) rs
go_down m n root lo key p d next rs w c l t z deep is even apart black below above first from false less more =
    let s = split_here w c l (m p, p) t rs is from in
    record {
      way = step false c (m p, p) t w;
      tree = l;
      zip = down m n root (λ x. times x rs) w false c l (m p, p) t z;
      at = refl;
      deep = omega arith;
      is = is;
      even = even;
      apart = apart;
      black = black;
      below = below;
      above = (omega (arith, less refl), s.after);
      next_is = refl;
    }
go_down m n root lo key p d next rs w c l t z deep is even apart black below above first from true less more =
    let s = split_here w c l (m p, p) t rs is from in
    let k : m p < lo = more refl in
    record {
      way = step true c (m p, p) l w;
      tree = t;
      zip = down m n root (λ x. times x rs) w true c t (m p, p) l z;
      at = refl;
      deep = omega arith;
      is = is;
      even = even;
      apart = apart;
      black = black;
      below = below_both lo (front w) (rows l ++ ((m p, p) ∷ [])) below
          (below_both lo (rows l) ((m p, p) ∷ []) (below_higher (m p) lo (rows l) (omega arith)
          (below_right (m p) (front w) (rows l) s.before)) (k, tt));
      above = above;
      next_is = first;
    }

spot_down : (m : ℕ → ℕ) (n root lo key link d p : ℕ) (next : Option (ℕ × ℕ)) (rs : Rows) →
    Spot m n root lo key link d next rs → m link ≡ p → p ≢ 0 → IsFrom 0 rs → (right : Bool) →
    (right ≡ false → key < m p) → (right ≡ true → m p < lo) →
    Spot m n root lo key (p + off right) (d + 1) (cond right next (Some (m p, p))) rs
spot_down m n root lo key link d p next rs h e ne from right less more =
    let o = spot_tree m n root lo key link d p next rs h e ne in
    go_down m n root lo key p d next rs h.way o.colour o.left o.right (rw o.is at h.zip) h.deep (rw o.is at h.is)
    (rw o.is at h.even) (rw o.is at h.apart) (rw o.is at h.black) h.below h.above h.next_is from right less more

spot_low : (m : ℕ → ℕ) (n root lo key link d : ℕ) (next : Option (ℕ × ℕ)) (rs : Rows) →
    Spot m n root lo key link d next rs → length rs ≤ 262144 → d ≤ 36
spot_low m n root lo key link d next rs h few =
    let low = low_tree (plug h.way h.tree) h.even h.apart h.black (rw h.is few) in
    omega (arith, depth_plug h.way h.tree, h.deep)

spot_room : (m : ℕ → ℕ) (n root lo key link d : ℕ) (next : Option (ℕ × ℕ)) (rs : Rows) →
    Spot m n root lo key link d next rs → 16 ≤ n → link < n
spot_room m n root lo key link d next rs h room = elim (link_is root h.way) [
  | inl e ↦ omega (arith, h.at, e, h.zip.low)
  | inr i ↦ (let b = way_block m n root i.block h.way h.zip.way i.there in omega (arith, h.at, i.is, i.high, b.1.0))
]

-- the block that hangs there has the key, or nothing hangs there
spot_block : (m : ℕ → ℕ) (n root key link d p : ℕ) (next : Option (ℕ × ℕ)) (rs : Rows) →
    Spot m n root key key link d next rs → m link ≡ p → p ≢ 0 → m p ≡ key → IsFrom 0 rs → p ≡ block_at rs key
spot_block m n root key link d p next rs h e ne k from =
    let o = spot_tree m n root key key link d p next rs h e ne in
    let is' : rows (plug h.way (node o.colour o.left (m p, p) o.right)) ≡ rs = rw o.is at h.is in
    let s = split_here h.way o.colour o.left (m p, p) o.right rs is' from in
    let r : rs ≡ (front h.way ++ rows o.left) ++ ((key, p) ∷ (rows o.right ++ behind h.way)) =
    sym is' ∙ (rows_plug h.way (node o.colour o.left (m p, p) o.right) ∙ (rw k (simp append_assoc))) in
    let below : AllBelow key (front h.way ++ rows o.left) = rw k at s.before in
    sym (rw r (at_between (front h.way ++ rows o.left) (rows o.right ++ behind h.way) key p below))

spot_none : (m : ℕ → ℕ) (n root key link d : ℕ) (next : Option (ℕ × ℕ)) (rs : Rows) →
    Spot m n root key key link d next rs → m link ≡ 0 → 0 ≡ block_at rs key
spot_none m n root key link d next rs h z =
    let r = spot_leaf m n root key key link d next rs h z in
    sym (rw r (none_between (front h.way) (behind h.way) key h.below h.above))

-- the same under every image that there may be, and only reads were made
pub record Descending (s s' : View) (root lo key link d : ℕ) (next : Option (ℕ × ℕ)) : Type 0 where
  pub kept : Kept s s'
  pub writes : s'.writes ≡ s.writes
  pub inside : MatchOption next (Unit {0}) (λ r. IsInside s'.size r.1)
  pub spot : (image : List ℕ) (rs : Rows) → Sees s' image → Table (mem s image) (length image) root rs →
      Spot (mem s image) (length image) root lo key link d next rs

pub descent_start : (s : View) (root lo key : ℕ) → HasTable s root → Descending s s root lo key root 0 None
descent_start s root lo key has = record {
  kept = kept_none s;
  writes = refl;
  inside = tt;
  spot = λ image rs i t. spot_start (mem s image) (length image) root lo key rs has.low t;
}

pub descent_leads : (s0 s : View) (root lo key link d : ℕ) (next : Option (ℕ × ℕ)) → HasTable s0 root →
    Descending s0 s root lo key link d next → ∥ ((image : List ℕ) × RestsOn s image) ∥₁ → LeadsToBlock s link
descent_leads s0 s root lo key link d next table k ws = record {
  small = omega (arith, table.small, k.kept.size);
  room = (
      let r : link + 1 ≤ s.size = some_le (link + 1) s.size ws (λ w.
      let t = table.under w.0 (stood k.kept w.0 w.1) in
      let p = k.spot w.0 t.entries w.1.sees t.is in
      omega (
        arith,
        spot_room (mem s0 w.0) (length w.0) root lo key link d next t.entries p
            (omega (arith, table.room, k.kept.size, w.1.size)),
        w.1.size,
      )) in
      omega arith);
  under = λ image i ne.
      let t = table.under image (stood k.kept image i) in
      let p = k.spot image t.entries i.sees t.is in
      let same : mem s image link ≡ mem s0 image (link_of root p.way) =
      ap (λ (w : Words). memory image w link) k.writes ∙ ap (mem s0 image) p.at in
      subst (λ (x : ℕ). IsBlock (length image) x) (sym same)
      (pointer (mem s0 image) (length image) (mem s0 image (link_of root p.way)) p.tree p.zip.tree
      (λ z. ne (same ∙ z)));
}

inside_same : (n n' : ℕ) (next : Option (ℕ × ℕ)) → n' ≡ n → MatchOption next (Unit {0}) (λ r. IsInside n r.1) →
    MatchOption next (Unit {0}) (λ r. IsInside n' r.1)
inside_same n n' None e h = tt
inside_same n n' (Some r) e h = (h.0, omega (arith, h.1, e))

inside_step : (n found p : ℕ) (next : Option (ℕ × ℕ)) (right : Bool) →
    MatchOption next (Unit {0}) (λ r. IsInside n r.1) → IsInside n p →
    MatchOption (cond right next (Some (found, p))) (Unit {0}) (λ r. IsInside n r.1)
inside_step n found p next false h i = i
inside_step n found p next true h i = h

descent_step : (s0 s s1 s2 : View) (root lo key link d p found : ℕ) (next : Option (ℕ × ℕ)) (right : Bool) →
    Descending s0 s root lo key link d next → Reached s s1 link p → p ≢ 0 → Loaded s1 s2 p found →
    (right ≡ false → key < found) → (right ≡ true → found < lo) →
    Descending s0 s2 root lo key (p + off right) (d + 1) (cond right next (Some (found, p)))
descent_step s0 s s1 s2 root lo key link d p found next right k r ne l less more = record {
  kept = kept_both s0 s s2 k.kept (kept_both s s1 s2 r.loaded.kept l.kept);
  writes = l.writes ∙ (r.loaded.writes ∙ k.writes);
  inside =
      let at = r.room ne in
      inside_step s2.size found p next right (inside_same s.size s2.size next
      (l.kept.size ∙ r.loaded.kept.size) k.inside) (omega (arith, at.0), omega (arith, at.1, l.kept.size));
  spot = λ image rs i t.
      let i1 = l.kept.seen image i in let i0 = r.loaded.kept.seen image i1 in
      let key_is : mem s0 image p ≡ found = at_start s0 s1 s2 p found (r.loaded.writes ∙ k.writes) l image i in
      let a = spot_down (mem s0 image) (length image) root lo key link d p next rs (k.spot image rs i0 t)
      (at_start s0 s s1 link p k.writes r.loaded image i1) ne t.table.ascending
      right (λ e. omega (arith, less e, key_is)) (λ e. omega (arith, more e, key_is)) in
      subst (λ (x : ℕ). Spot (mem s0 image) (length image) root lo key (p + off right) (d + 1)
      (cond right next (Some (x, p))) rs) key_is a;
}

pub descent_left : (s0 s s1 s2 : View) (root lo key link d p found side : ℕ) (next : Option (ℕ × ℕ)) →
    Descending s0 s root lo key link d next → Reached s s1 link p → p ≢ 0 → Loaded s1 s2 p found → side ≡ p + 1 →
    key < found → Descending s0 s2 root lo key side (d + 1) (Some (found, p))
descent_left s0 s s1 s2 root lo key link d p found side next k r ne l e less =
    rw e (descent_step s0 s s1 s2 root lo key link d p found next false k r ne l (λ _. less) (λ z. cc))

pub descent_right : (s0 s s1 s2 : View) (root lo key link d p found side : ℕ) (next : Option (ℕ × ℕ)) →
    Descending s0 s root lo key link d next → Reached s s1 link p → p ≢ 0 → Loaded s1 s2 p found → side ≡ p + 2 →
    found < lo → Descending s0 s2 root lo key side (d + 1) next
descent_right s0 s s1 s2 root lo key link d p found side next k r ne l e more =
    rw e (descent_step s0 s s1 s2 root lo key link d p found next true k r ne l (λ z. cc) (λ _. more))

pub found_none : (s0 s s1 : View) (root key link d p : ℕ) (next : Option (ℕ × ℕ)) →
    Descending s0 s root key key link d next → Reached s s1 link p → p ≡ 0 → FoundRow s0 s1 root key 0
found_none s0 s s1 root key link d p next k r z = record {
  kept = kept_both s0 s s1 k.kept r.loaded.kept;
  writes = r.loaded.writes ∙ k.writes;
  is = λ image rs i t. spot_none (mem s0 image) (length image) root key link d next rs
      (k.spot image rs (r.loaded.kept.seen image i) t) (at_start s0 s s1 link p k.writes r.loaded image i ∙ z);
}

pub found_here : (s0 s s1 s2 : View) (root key link d p found : ℕ) (next : Option (ℕ × ℕ)) →
    Descending s0 s root key key link d next → Reached s s1 link p → p ≢ 0 → Loaded s1 s2 p found → found ≡ key →
    FoundAt s0 s2 root key p
found_here s0 s s1 s2 root key link d p found next k r ne l e = record {
  found = record {
    kept = kept_both s0 s s2 k.kept (kept_both s s1 s2 r.loaded.kept l.kept);
    writes = l.writes ∙ (r.loaded.writes ∙ k.writes);
    is = λ image rs i t.
        let i1 = l.kept.seen image i in
        let key_is : mem s0 image p ≡ found = at_start s0 s1 s2 p found (r.loaded.writes ∙ k.writes) l image i in
        spot_block (mem s0 image) (length image) root key link d p next rs
        (k.spot image rs (r.loaded.kept.seen image i1) t) (at_start s0 s s1 link p k.writes r.loaded image i1) ne
        (key_is ∙ e) t.table.ascending;
  };
  inside = (let at = r.room ne in (omega (arith, at.0), omega (arith, at.1, l.kept.size)));
}

-- no way is as long as that
pub found_deep : (s0 s : View) (root key link d : ℕ) (next : Option (ℕ × ℕ)) →
    Descending s0 s root key key link d next → 37 ≤ d → FoundRow s0 s root key 0
found_deep s0 s root key link d next k l = record {
  kept = k.kept;
  writes = k.writes;
  is = λ image rs i t. absurd (omega (
    arith,
    l,
    spot_low (mem s0 image) (length image) root key key link d next rs
        (k.spot image rs i t) t.few,
  ));
}
