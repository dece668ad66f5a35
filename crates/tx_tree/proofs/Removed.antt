-- A removal: from the place that the search found to the pieces, and from the mended tree to the table. In one memory.
use Rattle.std.proofs.Common.{◌≡◌, ◌≢◌, ℕ, ◌≤◌, Bool, List, ◌∷◌, ◌++◌, length, slice_index, refl, sym, ap, ◌∙◌, subst}
use Rattle.std.proofs.Common.{arith, append_assoc}
use Rattle.tx_alloc.specs.Rows.{Rows, times, cut_row, Relinks, AllBelow, IsFrom}
use Rattle.tx_tree.specs.Tree.{Tree, node, rows, blacks, height}
use Rattle.tx_tree.specs.Way.{Way, plug, depth, front, behind}
use Rattle.tx_tree.specs.Balance.{Sound}
use Rattle.tx_tree.specs.Hangs.{Zip}
use Rattle.tx_tree.specs.Table.{IsTable, Table}
use Rattle.tx_tree.specs.Steps.{IsPath, PlaceOfKey}
use Rattle.tx_tree.specs.Next.{GoneEnds}
use Rattle.tx_tree.proofs.Shapes.{rows_plug, even_parts, apart_parts}
use Rattle.tx_alloc.proofs.Order.{cut_between, from_cut}
use Rattle.tx_tree.proofs.Seeking.{has_times, place_node, split_here, low_tree}

-- the node of the key, where the search ended
pub record NodeHere (m : ℕ → ℕ) (n root key p : ℕ) (xs : List ℕ) (d : ℕ) (rs : Rows) : Type 0 where
  pub way : Way
  pub colour : Bool
  pub left : Tree
  pub right : Tree
  pub zip : Zip m n root (λ x. times x rs) way (node colour left (key, p) right)
  pub path : IsPath xs root way
  pub deep : d ≡ depth way
  pub sound : Sound way (node colour left (key, p) right) (blacks (node colour left (key, p) right))
  pub tall : height (plug way (node colour left (key, p) right)) ≤ 36
  pub is : rs ≡ (front way ++ rows left) ++ ((key, p) ∷ (rows right ++ behind way))
  pub below : AllBelow key (front way ++ rows left)

pub node_here : (m : ℕ → ℕ) (n root key p : ℕ) (xs : List ℕ) (d : ℕ) (rs : Rows) → PlaceOfKey m n root key xs d rs →
    m (slice_index xs d) ≡ p → p ≢ 0 → m p ≡ key → Table m n root rs → NodeHere m n root key p xs d rs
node_here m n root key p xs d rs h e ne k table =
    let o = place_node m n root key p xs d rs h e ne in
    let x : h.tree ≡ node o.colour o.left (key, p) o.right =
    o.is ∙ ap (λ (z : ℕ). node o.colour o.left (z, p) o.right) k in
    let is' : rows (plug h.way (node o.colour o.left (key, p) o.right)) ≡ rs =
    sym (ap (λ (z : Tree). rows (plug h.way z)) x) ∙ h.is in
    let s = split_here h.way o.colour o.left (key, p) o.right rs is' table.table.ascending in
    let few : length (rows (plug h.way h.tree)) ≤ 262144 = rw h.is table.few in
    let low = low_tree (plug h.way h.tree) h.even h.apart h.black few in
    let even = even_parts h.way (node o.colour o.left (key, p) o.right) (rw x at h.even) in
    let apart = apart_parts h.way (node o.colour o.left (key, p) o.right) (rw x at h.apart) (rw x at h.black) in
    record {
      way = h.way;
      colour = o.colour;
      left = o.left;
      right = o.right;
      zip = rw x at h.zip;
      path = h.path;
      deep = h.deep;
      sound = record { even = (even.0, refl); way = even.1; apart = apart.0; fits = apart.1 };
      tall = rw x at low;
      is = sym is' ∙ (rows_plug h.way (node o.colour o.left (key, p) o.right) ∙ simp append_assoc);
      below = s.before;
    }

pub record Cut (m m' : ℕ → ℕ) (n root key : ℕ) (rs : Rows) : Type 0 where
  pub table : IsTable m' n (m' root) (cut_row rs key)
  pub relinks : Relinks m m' 1 root rs

pub cut_ends : (m m' : ℕ → ℕ) (n root key p : ℕ) (xs : List ℕ) (d : ℕ) (rs : Rows) →
    (h : NodeHere m n root key p xs d rs) → IsFrom 0 rs → GoneEnds m m' n root (λ x. times x rs) p
    (front h.way ++ ((rows h.left ++ rows h.right) ++ behind h.way)) → Cut m m' n root key rs
cut_ends m m' n root key p xs d rs h from e =
    let cut : cut_row rs key ≡ (front h.way ++ rows h.left) ++ (rows h.right ++ behind h.way) =
    ap (λ (z : Rows). cut_row z key) h.is ∙ cut_between (front h.way ++ rows h.left)
    (rows h.right ++ behind h.way) key p h.below in
    let same : front h.way ++ ((rows h.left ++ rows h.right) ++ behind h.way) ≡ (front h.way ++ rows h.left) ++
    (rows h.right ++ behind h.way) = simp append_assoc in
    let is : rows e.tree ≡ cut_row rs key = e.is ∙ (same ∙ sym cut) in
    let from' : IsFrom 0 ((front h.way ++ rows h.left) ++ (rows h.right ++ behind h.way)) =
    from_cut 0 (front h.way ++ rows h.left) (key, p) (rows h.right ++ behind h.way)
    (subst (λ (z : Rows). IsFrom 0 z) h.is from) in
    record {
      table = record {
        tree = e.tree;
        hangs = e.zip.tree;
        is = is;
        even = e.even;
        apart = e.apart;
        black = e.black;
        ascending = subst (λ (z : Rows). IsFrom 0 z) (sym cut) from';
        once = λ x. omega (arith, has_times e.tree x, ap (times x) is, e.zip.count x, e.zip.once x);
      };
      relinks = record { others = λ x ne out. e.touches.others x ne out };
    }
