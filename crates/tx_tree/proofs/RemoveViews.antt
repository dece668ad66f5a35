-- A removal, over every memory that there may be.
use Rattle.std.proofs.Common.{◌≡◌, ◌≢◌, ℕ, ◌+◌, ◌<◌, true, false, List, ◌++◌, length, sym, ap, ◌∙◌, subst, arith}
use Rattle.std.proofs.Common.{append-nil}
use Rattle.tx_memory.specs.View.{View, Sees, Kept}
use Rattle.tx_alloc.specs.Steps.{mem, kept_both, stood, at_start}
use Rattle.tx_alloc.specs.Rows.{Rows, times, block_at}
use Rattle.tx_tree.specs.Tree.{Tree, leaf, node, rows, blacks}
use Rattle.tx_tree.specs.Way.{plug, front, behind}
use Rattle.tx_tree.specs.Hangs.{without_block}
use Rattle.tx_tree.specs.Table.{IsInside, Table, HasTable, Removed}
use Rattle.tx_alloc.specs.Pointer.{LeadsToBlock}
use Rattle.tx_tree.specs.Steps.{Reached, SoughtKey}
use Rattle.tx_tree.specs.Mending.{IsMended}
use Rattle.tx_tree.specs.Removal.{LastAt, HasLast, Unlinked}
use Rattle.tx_tree.specs.Next.{BothAt, HasBoth, GoneEnds, NextUnlinked}
use Rattle.tx_tree.proofs.Shapes.{rows_plug}
use Rattle.tx_tree.proofs.Writes.{touches_more}
use Rattle.tx_tree.specs.Hangs.{Zip}
use Rattle.tx_tree.specs.Balance.{Sound}
use Rattle.tx_tree.proofs.Moves.{no_tree, pointer}
use Rattle.tx_tree.proofs.Inserting.{place_answer}
use Rattle.tx_tree.proofs.Removed.{NodeHere, node_here, Cut, cut_ends}

pub here_at : (s s1 : View) (root key p : ℕ) (xs : List ℕ) (d : ℕ) → SoughtKey s s1 root key xs d p → p ≢ 0 →
    (image : List ℕ) (rs : Rows) → Sees s1 image → Table (mem s image) (length image) root rs →
    NodeHere (mem s image) (length image) root key p xs d rs
here_at s s1 root key p xs d so ne image rs i t = node_here (mem s image) (length image) root key p xs d rs
    (so.seeking.place image rs i t) (so.is image i) ne (so.key_is ne image i) t

pub left_leads : (s s1 : View) (root key p : ℕ) (xs : List ℕ) (d : ℕ) → HasTable s root →
    SoughtKey s s1 root key xs d p →
    p ≢ 0 → LeadsToBlock s1 (p + 1)
left_leads s s1 root key p xs d table so ne = record {
  small = omega (arith, table.small, so.seeking.kept.size);
  room = omega (arith, (so.there ne).1);
  under = λ image i nz.
      let t = table.under image (stood so.seeking.kept image i) in
      let h = here_at s s1 root key p xs d so ne image t.entries i.sees t.is in
      rw so.seeking.writes (pointer (mem s image) (length image) (mem s image (p + 1)) h.left h.zip.tree.1.0
      (rw so.seeking.writes at nz));
}

pub right_leads : (s s1 s2 : View) (root key p vl : ℕ) (xs : List ℕ) (d : ℕ) → HasTable s root →
    SoughtKey s s1 root key xs d p → p ≢ 0 → Reached s1 s2 (p + 1) vl → LeadsToBlock s2 (p + 2)
right_leads s s1 s2 root key p vl xs d table so ne r = record {
  small = omega (arith, table.small, so.seeking.kept.size, r.loaded.kept.size);
  room = omega (arith, (so.there ne).1, r.loaded.kept.size);
  under = λ image i nz.
      let i1 = stood r.loaded.kept image i in
      let t = table.under image (stood so.seeking.kept image i1) in
      let h = here_at s s1 root key p xs d so ne image t.entries i1.sees t.is in
      rw (r.loaded.writes ∙ so.seeking.writes) (pointer (mem s image) (length image)
      (mem s image (p + 2)) h.right h.zip.tree.1.1 (rw (r.loaded.writes ∙ so.seeking.writes) at nz));
}

-- the node and its two sides
pub record Here (s s3 : View) (root key p vl vr : ℕ) (xs : List ℕ) (d : ℕ) : Type 0 where
  pub kept : Kept s s3
  pub writes : s3.writes ≡ s.writes
  pub deep : d < 40
  pub size : length xs ≡ 40
  pub inside : IsInside s3.size p
  pub here : (image : List ℕ) (rs : Rows) → Sees s3 image → Table (mem s image) (length image) root rs →
      NodeHere (mem s image) (length image) root key p xs d rs
  pub at_left : (image : List ℕ) → Sees s3 image → mem s image (p + 1) ≡ vl
  pub at_right : (image : List ℕ) → Sees s3 image → mem s image (p + 2) ≡ vr
  pub answer : (image : List ℕ) (rs : Rows) → Sees s3 image → Table (mem s image) (length image) root rs →
      p ≡ block_at rs key

pub here_of : (s s1 s2 s3 : View) (root key p vl vr : ℕ) (xs : List ℕ) (d : ℕ) → SoughtKey s s1 root key xs d p →
    p ≢ 0 →
    Reached s1 s2 (p + 1) vl → Reached s2 s3 (p + 2) vr → Here s s3 root key p vl vr xs d
here_of s s1 s2 s3 root key p vl vr xs d so ne r r' = record {
  kept = kept_both s s1 s3 so.seeking.kept (kept_both s1 s2 s3 r.loaded.kept r'.loaded.kept);
  writes = r'.loaded.writes ∙ (r.loaded.writes ∙ so.seeking.writes);
  deep = so.seeking.deep;
  size = so.seeking.size;
  inside = let at = so.there ne in (omega (arith, at.0), omega (arith, at.1, r.loaded.kept.size, r'.loaded.kept.size));
  here = λ image rs i t. here_at s s1 root key p xs d so ne image rs
      (r.loaded.kept.seen image (r'.loaded.kept.seen image i)) t;
  at_left = λ image i. at_start s s1 s2 (p + 1) vl so.seeking.writes r.loaded image (r'.loaded.kept.seen image i);
  at_right = λ image i. at_start s s2 s3 (p + 2) vr (r.loaded.writes ∙ so.seeking.writes) r'.loaded image i;
  answer = λ image rs i t.
      let i1 = r.loaded.kept.seen image (r'.loaded.kept.seen image i) in
      place_answer (mem s image) (length image) root key p xs d rs (so.seeking.place image rs i1 t) (so.is image i1)
      (λ z. so.key_is z image i1) t.table.ascending;
}

both_of : (m : ℕ → ℕ) (n root key p vr : ℕ) (xs : List ℕ) (d : ℕ) (rs : Rows) → (h : NodeHere m n root key p xs d rs) →
    m (p + 2) ≡ vr → vr ≢ 0 → BothAt m n root (λ x. times x rs) xs d p h.way h.colour h.left key h.right
    (blacks (node h.colour h.left (key, p) h.right))
both_of m n root key p vr xs d rs h e ne = record {
  zip = h.zip;
  path = h.path;
  deep = h.deep;
  sound = h.sound;
  some = λ z. ne (sym e ∙ z);
  tall = h.tall;
}

pub has_both : (s s3 : View) (root key p vl vr : ℕ) (xs : List ℕ) (d : ℕ) → HasTable s root →
    Here s s3 root key p vl vr xs d → vr ≢ 0 → HasBoth s3 xs d p
has_both s s3 root key p vl vr xs d table h ne = record {
  small = omega (arith, table.small, h.kept.size);
  room = omega (arith, table.room, h.kept.size);
  size = h.size;
  deep = h.deep;
  under = λ image i.
      let t = table.under image (stood h.kept image i) in
      let a = h.here image t.entries i.sees t.is in
      rw h.writes (record {
        root = root;
        total = λ x. times x t.entries;
        way = a.way;
        colour = a.colour;
        left = a.left;
        key = key;
        right = a.right;
        blacks = _;
        at =
            both_of (mem s image) (length image) root key p vr xs d t.entries a (h.at_right image i.sees) ne;
      });
}

pub removed_both : (s s3 s4 : View) (root key p vl vr : ℕ) (xs : List ℕ) (d : ℕ) → Here s s3 root key p vl vr xs d →
    vr ≢ 0 → NextUnlinked s3 s4 xs d p → Removed s s4 root key p
removed_both s s3 s4 root key p vl vr xs d h ne f =
    let cut : (image : List ℕ) (rs : Rows) → Sees s4 image → Table (mem s image) (length image) root rs →
    Cut (mem s image) (mem s4 image) (length image) root key rs = λ image rs i t.
    let i3 = f.kept.seen image i in
    let a = h.here image rs i3 t in
    let b = both_of (mem s image) (length image) root key p vr xs d rs a (h.at_right image i3) ne in
    let e : GoneEnds (mem s image) (mem s4 image) (length image) root (λ x. times x rs) p
    (front a.way ++ ((rows a.left ++ rows a.right) ++ behind a.way)) =
    rw h.writes at (f.ends image i root (λ x. times x rs) a.way a.colour a.left key a.right
    (blacks (node a.colour a.left (key, p) a.right)) (rw h.writes b)) in
    cut_ends (mem s image) (mem s4 image) (length image) root key p xs d rs a t.table.ascending e in
    record {
      kept = kept_both s s3 s4 h.kept f.kept;
      inside = (h.inside.0, omega (arith, h.inside.1, f.kept.size));
      is = λ image rs i t. h.answer image rs (f.kept.seen image i) t;
      table = λ image rs i t. (cut image rs i t).table;
      relinks = λ image rs i t. (cut image rs i t).relinks;
    }

last_left : (m : ℕ → ℕ) (n root key p v : ℕ) (xs : List ℕ) (d : ℕ) (rs : Rows) → (h : NodeHere m n root key p xs d rs) →
    m (p + 1) ≡ 0 → m (p + 2) ≡ v → LastAt m n root (λ x. times x rs) xs d p v h.way false h.colour key h.right
    (blacks (node h.colour h.left (key, p) h.right))
last_left m n root key p v xs d rs h none e =
    let z = no_tree m n (m (p + 1)) h.left h.zip.tree.1.0 none in
    let q : (node h.colour h.left (key, p) h.right) ≡ (node h.colour leaf (key, p) h.right) =
    ap (λ (x : Tree). node h.colour x (key, p) h.right) z in
    record {
      zip = subst (λ (x : Tree). Zip m n root (λ y. times y rs) h.way x) q h.zip;
      path = h.path;
      deep = h.deep;
      leads = e;
      sound = subst (λ (x : Tree). Sound h.way x (blacks (node h.colour h.left (key, p) h.right))) q h.sound;
    }

gone_left : (m m' : ℕ → ℕ) (n root key p : ℕ) (xs : List ℕ) (d : ℕ) (rs : Rows) →
    (h : NodeHere m n root key p xs d rs) → m (p + 1) ≡ 0 → IsMended m m' n root (without_block (λ x. times x rs) p)
    (rows (plug h.way h.right)) → GoneEnds m m' n root (λ x. times x rs) p
    (front h.way ++ ((rows h.left ++ rows h.right) ++ behind h.way))
gone_left m m' n root key p xs d rs h none e =
    let z = no_tree m n (m (p + 1)) h.left h.zip.tree.1.0 none in
    record {
      tree = e.tree;
      zip = e.zip;
      even = e.even;
      apart = e.apart;
      black = e.black;
      is = e.is ∙ (rows_plug h.way h.right ∙
          ap (λ (x : Rows). front h.way ++ ((x ++ rows h.right) ++ behind h.way)) (sym (ap rows z)));
      touches =
          touches_more m m' root (without_block (λ x. times x rs) p) (λ x. times x rs) (λ x. omega arith) e.touches;
    }

pub has_last_left : (s s3 : View) (root key p vl vr : ℕ) (xs : List ℕ) (d : ℕ) → HasTable s root →
    Here s s3 root key p vl vr xs d → vl ≡ 0 → HasLast s3 xs d p vr
has_last_left s s3 root key p vl vr xs d table h none = record {
  small = omega (arith, table.small, h.kept.size);
  room = omega (arith, table.room, h.kept.size);
  size = h.size;
  deep = h.deep;
  under = λ image i.
      let t = table.under image (stood h.kept image i) in
      let a = h.here image t.entries i.sees t.is in
      rw h.writes (record {
        root = root;
        total = λ x. times x t.entries;
        way = a.way;
        right = false;
        colour = a.colour;
        key = key;
        tree = a.right;
        blacks = _;
        at =
            last_left (mem s image) (length image) root key p vr xs d t.entries a (h.at_left image i.sees ∙ none)
            (h.at_right image i.sees);
      });
}

pub removed_left : (s s3 s4 : View) (root key p vl vr : ℕ) (xs : List ℕ) (d : ℕ) → Here s s3 root key p vl vr xs d →
    vl ≡ 0 → Unlinked s3 s4 xs d p vr → Removed s s4 root key p
removed_left s s3 s4 root key p vl vr xs d h none f =
    let cut : (image : List ℕ) (rs : Rows) → Sees s4 image → Table (mem s image) (length image) root rs →
    Cut (mem s image) (mem s4 image) (length image) root key rs = λ image rs i t.
    let i3 = f.kept.seen image i in
    let a = h.here image rs i3 t in
    let b = last_left (mem s image) (length image) root key p vr xs d rs a (h.at_left image i3 ∙ none)
    (h.at_right image i3) in
    let e : IsMended (mem s image) (mem s4 image) (length image) root (without_block (λ x. times x rs) p)
    (rows (plug a.way a.right)) = rw h.writes at (f.ends image i root
    (λ x. times x rs) a.way false a.colour key a.right (blacks (node a.colour a.left (key, p) a.right))
    (rw h.writes b)) in
    cut_ends (mem s image) (mem s4 image) (length image) root key p xs d rs a t.table.ascending
    (gone_left (mem s image) (mem s4 image) (length image) root key p xs d rs a (h.at_left image i3 ∙ none) e) in
    record {
      kept = kept_both s s3 s4 h.kept f.kept;
      inside = (h.inside.0, omega (arith, h.inside.1, f.kept.size));
      is = λ image rs i t. h.answer image rs (f.kept.seen image i) t;
      table = λ image rs i t. (cut image rs i t).table;
      relinks = λ image rs i t. (cut image rs i t).relinks;
    }

last_right : (m : ℕ → ℕ) (n root key p v : ℕ) (xs : List ℕ) (d : ℕ) (rs : Rows) →
    (h : NodeHere m n root key p xs d rs) → m (p + 2) ≡ 0 → m (p + 1) ≡ v →
    LastAt m n root (λ x. times x rs) xs d p v h.way true h.colour key h.left
    (blacks (node h.colour h.left (key, p) h.right))
last_right m n root key p v xs d rs h none e =
    let z = no_tree m n (m (p + 2)) h.right h.zip.tree.1.1 none in
    let q : (node h.colour h.left (key, p) h.right) ≡ (node h.colour h.left (key, p) leaf) =
    ap (λ (x : Tree). node h.colour h.left (key, p) x) z in
    record {
      zip = subst (λ (x : Tree). Zip m n root (λ y. times y rs) h.way x) q h.zip;
      path = h.path;
      deep = h.deep;
      leads = e;
      sound = subst (λ (x : Tree). Sound h.way x (blacks (node h.colour h.left (key, p) h.right))) q h.sound;
    }

gone_right : (m m' : ℕ → ℕ) (n root key p : ℕ) (xs : List ℕ) (d : ℕ) (rs : Rows) →
    (h : NodeHere m n root key p xs d rs) → m (p + 2) ≡ 0 → IsMended m m' n root (without_block (λ x. times x rs) p)
    (rows (plug h.way h.left)) → GoneEnds m m' n root (λ x. times x rs) p
    (front h.way ++ ((rows h.left ++ rows h.right) ++ behind h.way))
gone_right m m' n root key p xs d rs h none e =
    let z = no_tree m n (m (p + 2)) h.right h.zip.tree.1.1 none in
    record {
      tree = e.tree;
      zip = e.zip;
      even = e.even;
      apart = e.apart;
      black = e.black;
      is = e.is ∙ (rows_plug h.way h.left ∙ ap (λ (x : Rows). front h.way ++ (x ++ behind h.way))
          (sym (ap (λ (x : Tree). rows h.left ++ rows x) z ∙ append-nil (rows h.left))));
      touches =
          touches_more m m' root (without_block (λ x. times x rs) p) (λ x. times x rs) (λ x. omega arith) e.touches;
    }

pub has_last_right : (s s3 : View) (root key p vl vr : ℕ) (xs : List ℕ) (d : ℕ) → HasTable s root →
    Here s s3 root key p vl vr xs d → vr ≡ 0 → HasLast s3 xs d p vl
has_last_right s s3 root key p vl vr xs d table h none = record {
  small = omega (arith, table.small, h.kept.size);
  room = omega (arith, table.room, h.kept.size);
  size = h.size;
  deep = h.deep;
  under = λ image i.
      let t = table.under image (stood h.kept image i) in
      let a = h.here image t.entries i.sees t.is in
      rw h.writes (record {
        root = root;
        total = λ x. times x t.entries;
        way = a.way;
        right = true;
        colour = a.colour;
        key = key;
        tree = a.left;
        blacks = _;
        at =
            last_right (mem s image) (length image) root key p vl xs d t.entries a (h.at_right image i.sees ∙ none)
            (h.at_left image i.sees);
      });
}

pub removed_right : (s s3 s4 : View) (root key p vl vr : ℕ) (xs : List ℕ) (d : ℕ) → Here s s3 root key p vl vr xs d →
    vr ≡ 0 → Unlinked s3 s4 xs d p vl → Removed s s4 root key p
removed_right s s3 s4 root key p vl vr xs d h none f =
    let cut : (image : List ℕ) (rs : Rows) → Sees s4 image → Table (mem s image) (length image) root rs →
    Cut (mem s image) (mem s4 image) (length image) root key rs = λ image rs i t.
    let i3 = f.kept.seen image i in
    let a = h.here image rs i3 t in
    let b = last_right (mem s image) (length image) root key p vl xs d rs a (h.at_right image i3 ∙ none)
    (h.at_left image i3) in
    let e : IsMended (mem s image) (mem s4 image) (length image) root (without_block (λ x. times x rs) p)
    (rows (plug a.way a.left)) = rw h.writes at (f.ends image i root
    (λ x. times x rs) a.way true a.colour key a.left (blacks (node a.colour a.left (key, p) a.right))
    (rw h.writes b)) in
    cut_ends (mem s image) (mem s4 image) (length image) root key p xs d rs a t.table.ascending
    (gone_right (mem s image) (mem s4 image) (length image) root key p xs d rs a (h.at_right image i3 ∙ none) e) in
    record {
      kept = kept_both s s3 s4 h.kept f.kept;
      inside = (h.inside.0, omega (arith, h.inside.1, f.kept.size));
      is = λ image rs i t. h.answer image rs (f.kept.seen image i) t;
      table = λ image rs i t. (cut image rs i t).table;
      relinks = λ image rs i t. (cut image rs i t).relinks;
    }
