-- An insertion: the block is hung where the search ended, and the tree is settled.
use Rattle.std.proofs.Common.{◌≡◌, ◌≢◌, inl, inr, ℕ, ◌+◌, ◌<◌, ◌≤◌, true, List, ◌∷◌, ◌++◌, length, slice_index, refl}
use Rattle.std.proofs.Common.{sym, ap, ◌∙◌, subst, arith, append_assoc}
use Rattle.tx_memory.specs.Seen.{same_or, some_le}
use Rattle.tx_memory.specs.View.{View, Sees, RestsOn, Kept, Stored, IsWrite}
use Rattle.tx_alloc.specs.Pool.{with_block}
use Rattle.tx_alloc.specs.Steps.{mem, kept_both, stood, write_at_start}
use Rattle.tx_alloc.specs.Rows.{Rows, times, put_row, block_at, Relinks, AllBelow, IsFrom}
use Rattle.tx_tree.specs.Tree.{Tree, leaf, node, rows}
use Rattle.tx_tree.specs.Way.{Way, plug, front, behind}
use Rattle.tx_tree.specs.Hangs.{link_of, Zip, Touches}
use Rattle.tx_tree.specs.Table.{IsTable, Table, HasTable, Fresh, IsFresh, Inserted, FoundRow}
use Rattle.tx_tree.specs.Steps.{PlaceOfKey, SoughtKey}
use Rattle.tx_tree.specs.Mending.{IsMended, RaisedAt, HasRaised, Settled}
use Rattle.tx_tree.proofs.Shapes.{rows_plug, even_parts, apart_parts}
use Rattle.tx_alloc.proofs.Order.{put_between, at_between, none_between, from_put}
use Rattle.tx_tree.proofs.Writes.{touches_both}
use Rattle.tx_tree.proofs.Moves.{hung, no_tree}
use Rattle.tx_tree.proofs.TableFrame.{table_loose}
use Rattle.tx_tree.proofs.Seeking.{has_times, path_at, place_node, split_here, link_room}

pub count_ends : (m m' : ℕ → ℕ) (n root : ℕ) (total : ℕ → ℕ) (rs : Rows) → IsMended m m' n root total rs → (x : ℕ) →
    times x rs ≡ total x
count_ends m m' n root total rs e x = omega (arith, has_times e.tree x, ap (times x) e.is, e.zip.count x)

pub table_ends : (m m' : ℕ → ℕ) (n root : ℕ) (total : ℕ → ℕ) (rs : Rows) → IsMended m m' n root total rs → IsFrom 0 rs →
    IsTable m' n (m' root) rs
table_ends m m' n root total rs e from = record {
  tree = e.tree;
  hangs = e.zip.tree;
  is = e.is;
  even = e.even;
  apart = e.apart;
  black = e.black;
  ascending = from;
  once = λ x. omega (arith, count_ends m m' n root total rs e x, e.zip.once x);
}

pub relinks_touches : (m m' : ℕ → ℕ) (root : ℕ) (total : ℕ → ℕ) (rs : Rows) → ((x : ℕ) → times x rs ≡ total x) →
    Touches m m' root total → Relinks m m' 1 root rs
relinks_touches m m' root total rs same t = record {
  others = λ x ne out. t.others x ne (λ a i. out a
      (omega (arith, same a)));
}

-- where there is no pointer there is no tree
place_leaf : (m : ℕ → ℕ) (n root key : ℕ) (xs : List ℕ) (d : ℕ) (rs : Rows) → (h : PlaceOfKey m n root key xs d rs) →
    m (slice_index xs d) ≡ 0 → h.tree ≡ leaf
place_leaf m n root key xs d rs h z =
    let at : slice_index xs d ≡ link_of root h.way = ap (slice_index xs) h.deep ∙ path_at xs root h.way h.path in
    no_tree m n (m (link_of root h.way)) h.tree h.zip.tree (ap m (sym at) ∙ z)

-- what the search found is the block of the key
pub place_answer : (m : ℕ → ℕ) (n root key p : ℕ) (xs : List ℕ) (d : ℕ) (rs : Rows) → PlaceOfKey m n root key xs d rs →
    m (slice_index xs d) ≡ p → (p ≢ 0 → m p ≡ key) → IsFrom 0 rs → p ≡ block_at rs key
place_answer m n root key p xs d rs h e is from = elim (same_or p 0) [
  | inl z ↦ (
      let t = place_leaf m n root key xs d rs h (e ∙ z) in
      let r : rs ≡ front h.way ++ behind h.way = sym h.is ∙ (rows_plug h.way h.tree ∙
      ap (λ (x : Tree). front h.way ++ (rows x ++ behind h.way)) t) in
      z ∙ sym (rw r (none_between (front h.way) (behind h.way) key h.below h.above)))
  | inr ne ↦ (
      let o = place_node m n root key p xs d rs h e ne in
      let is' : rows (plug h.way (node o.colour o.left (m p, p) o.right)) ≡ rs = rw o.is at h.is in
      let s = split_here h.way o.colour o.left (m p, p) o.right rs is' from in
      let k = is ne in
      let r : rs ≡ (front h.way ++ rows o.left) ++ ((key, p) ∷ (rows o.right ++ behind h.way)) =
      sym is' ∙ (rows_plug h.way (node o.colour o.left (m p, p) o.right) ∙ (rw k (simp append_assoc))) in
      let below : AllBelow key (front h.way ++ rows o.left) = rw k at s.before in
      sym (rw r (at_between (front h.way ++ rows o.left) (rows o.right ++ behind h.way) key p below)))
]

-- the four writes that hang a block where the search ended
pub record Hung (m m' : ℕ → ℕ) (n root key b : ℕ) (xs : List ℕ) (d : ℕ) (rs : Rows) : Type 0 where
  pub way : Way
  pub blacks : ℕ
  pub at : RaisedAt m' n root (with_block (λ x. times x rs) b) xs d b way leaf key leaf blacks
  pub is : rows (plug way (node true leaf (key, b) leaf)) ≡ put_row rs key b
  pub ascending : IsFrom 0 (put_row rs key b)
  pub touches : Touches m m' root (with_block (λ x. times x rs) b)

pub hung_at : (m m1 m2 m3 m' : ℕ → ℕ) (n root key b p : ℕ) (xs : List ℕ) (d : ℕ) (rs : Rows) →
    PlaceOfKey m n root key xs d rs → m (slice_index xs d) ≡ p → (p ≢ 0 → m p ≡ key) → IsFrom 0 rs →
    Fresh m n rs key b →
    times b rs ≡ 0
    → IsWrite m m1 (b + 1) 0 → IsWrite m1 m2 (b + 2) 0 → IsWrite m2 m3 (b + 3) 1 → IsWrite m3 m' (slice_index xs d) b →
    Hung m m' n root key b xs d rs
hung_at m m1 m2 m3 m' n root key b p xs d rs h e is from f loose w1 w2 w3 w4 =
    let none : p ≡ 0 = place_answer m n root key p xs d rs h e is from ∙ f.absent in
    let t = place_leaf m n root key xs d rs h (e ∙ none) in
    let at : slice_index xs d ≡ link_of root h.way = ap (slice_index xs) h.deep ∙ path_at xs root h.way h.path in
    let z : Zip m n root (λ x. times x rs) h.way leaf = rw t at h.zip in
    let w4' : IsWrite m3 m' (link_of root h.way) b = rw at at w4 in
    let a = hung m m1 m2 m3 m' n root (λ x. times x rs) h.way key b z f.block loose f.key_is w1 w2 w3 w4' in
    let even = even_parts h.way leaf (rw t at h.even) in
    let apart = apart_parts h.way leaf (rw t at h.apart) (rw t at h.black) in
    let r : rs ≡ front h.way ++ behind h.way = sym h.is ∙ (rows_plug h.way h.tree ∙
    ap (λ (x : Tree). front h.way ++ (rows x ++ behind h.way)) t) in
    let put : put_row rs key b ≡ front h.way ++ ((key, b) ∷ behind h.way) =
    rw r (put_between (front h.way) (behind h.way) key b h.below h.above) in
    let from' : IsFrom 0 (front h.way ++ behind h.way) = subst (λ (x : Rows). IsFrom 0 x) r from in
    record {
      way = h.way;
      blacks = 0;
      at = record {
        zip = a.0;
        path = h.path;
        deep = h.deep;
        raised = record {
          even = ((refl, tt, tt), refl);
          way = even.1;
          apart = ((λ z. (refl, refl)), tt, tt);
          fits = apart.1;
        };
      };
      is = rows_plug h.way (node true leaf (key, b) leaf) ∙ sym put;
      ascending = subst (λ (x : Rows). IsFrom 0 x) (sym put)
          (from_put 0 (front h.way) (behind h.way) key b (omega arith) h.below h.above from');
      touches = a.1;
    }

-- the same over every memory
pub record Hanging (s s5 : View) (root key b : ℕ) (xs : List ℕ) (d : ℕ) : Type 0 where
  pub kept : Kept s s5
  pub hung : (image : List ℕ) (rs : Rows) → Sees s5 image → Table (mem s image) (length image) root rs →
      Fresh (mem s image) (length image) rs key b → Hung (mem s image) (mem s5 image) (length image) root key b xs d rs

pub hanging : (s s1 s2 s3 s4 s5 : View) (root key b p : ℕ) (xs : List ℕ) (d : ℕ) → SoughtKey s s1 root key xs d p →
    Stored s1 s2 (b + 1) 0 → Stored s2 s3 (b + 2) 0 → Stored s3 s4 (b + 3) 1 → Stored s4 s5 (slice_index xs d) b →
    Hanging s s5 root key b xs d
hanging s s1 s2 s3 s4 s5 root key b p xs d so w1 w2 w3 w4 = record {
  kept = kept_both s s2 s5 (kept_both s s1 s2 so.seeking.kept w1.kept)
      (kept_both s2 s3 s5 w2.kept (kept_both s3 s4 s5 w3.kept w4.kept));
  hung = λ image rs i t f.
      let i4 = w4.kept.seen image i in let i3 = w3.kept.seen image i4 in let i2 = w2.kept.seen image i3 in let i1 =
      w1.kept.seen image i2 in
      let first : IsWrite (mem s image) (mem s2 image) (b + 1) 0 =
      write_at_start s s1 s2 _ 0 so.seeking.writes w1 image i2 in
      hung_at (mem s image) (mem s2 image) (mem s3 image) (mem s4 image) (mem s5 image)
      (length image) root key b p xs d rs (so.seeking.place image rs i1 t)
      (so.is image i1) (λ ne. so.key_is ne image i1) t.table.ascending f
      (table_loose (mem s image) (length image) (mem s image root) key b rs t.table f.key_is f.absent) first
      (w2.written image) (w3.written image) (w4.written image);
}

pub hanging_raised : (s s5 : View) (root key b : ℕ) (xs : List ℕ) (d : ℕ) → HasTable s root → IsFresh s root key b →
    length xs ≡ 40 → d < 40 → Hanging s s5 root key b xs d → HasRaised s5 xs d b
hanging_raised s s5 root key b xs d table fresh size deep h = record {
  small = omega (arith, table.small, h.kept.size);
  room = omega (arith, table.room, h.kept.size);
  size = size;
  deep = deep;
  under = λ image i.
      let i0 = stood h.kept image i in
      let t = table.under image i0 in
      let a = h.hung image t.entries i.sees t.is (fresh.under image t.entries i0 t.is) in
      record {
        root = root;
        total = _;
        way = a.way;
        left = leaf;
        key = key;
        right = leaf;
        blacks = a.blacks;
        at = a.at;
      };
}

pub inserted : (s s5 s6 : View) (root key b : ℕ) (xs : List ℕ) (d : ℕ) → Hanging s s5 root key b xs d →
    Settled s5 s6 xs d b → Inserted s s6 root key b
inserted s s5 s6 root key b xs d h f = record {
  kept = kept_both s s5 s6 h.kept f.kept;
  table = λ image rs i t free.
      let a = h.hung image rs (f.kept.seen image i) t free in
      let e = f.ends image i root (with_block (λ x. times x rs) b) a.way leaf key leaf a.blacks a.at in
      let e' : IsMended (mem s5 image) (mem s6 image) (length image) root (with_block (λ x. times x rs) b)
      (put_row rs key b) = rw a.is at e in
      table_ends (mem s5 image) (mem s6 image) (length image) root (with_block (λ x. times x rs) b)
      (put_row rs key b) e' a.ascending;
  relinks = λ image rs i t free.
      let a = h.hung image rs (f.kept.seen image i) t free in
      let e = f.ends image i root (with_block (λ x. times x rs) b) a.way leaf key leaf a.blacks a.at in
      let e' : IsMended (mem s5 image) (mem s6 image) (length image) root (with_block (λ x. times x rs) b)
      (put_row rs key b) = rw a.is at e in
      relinks_touches (mem s image) (mem s6 image) root (with_block (λ x. times x rs) b) (put_row rs key b)
      (count_ends (mem s5 image) (mem s6 image) (length image) root (with_block (λ x. times x rs) b)
      (put_row rs key b) e')
      (touches_both (mem s image) (mem s5 image) (mem s6 image) root
      (with_block (λ x. times x rs) b) a.touches e'.touches);
}

pub fresh_room : (s s1 : View) (root key b : ℕ) → Kept s s1 → HasTable s root → IsFresh s root key b →
    ∥ ((image : List ℕ) × RestsOn s1 image) ∥₁ → b + 8 ≤ s.size
fresh_room s s1 root key b k table fresh ws = some_le (b + 8) s.size ws (λ w.
    let i = stood k w.0 w.1 in
    let t = table.under w.0 i in
    omega (arith, (fresh.under w.0 t.entries i t.is).block.1.0, w.1.size, k.size))

pub sought_room : (s s1 : View) (root key p : ℕ) (xs : List ℕ) (d : ℕ) → HasTable s root →
    SoughtKey s s1 root key xs d p →
    ∥ ((image : List ℕ) × RestsOn s1 image) ∥₁ → slice_index xs d + 1 ≤ s.size
sought_room s s1 root key p xs d table so ws = some_le (slice_index xs d + 1) s.size ws (λ w.
    let k = so.seeking.kept in
    let t = table.under w.0 (stood k w.0 w.1) in
    omega (
      arith,
      link_room (mem s w.0) (length w.0) root key xs d t.entries
          (so.seeking.place w.0 t.entries w.1.sees t.is) (omega (arith, table.room, k.size, w.1.size)),
      w.1.size,
      k.size,
    ))

pub found : (s s' : View) (root key p q : ℕ) (xs : List ℕ) (d : ℕ) → SoughtKey s s' root key xs d p → p ≡ q →
    FoundRow s s' root key q
found s s' root key p q xs d so e = record {
  kept = so.seeking.kept;
  writes = so.seeking.writes;
  is = λ image rs i t. sym e ∙ place_answer (mem s image) (length image) root key p xs d rs
      (so.seeking.place image rs i t) (so.is image i) (λ ne. so.key_is ne image i) t.table.ascending;
}
