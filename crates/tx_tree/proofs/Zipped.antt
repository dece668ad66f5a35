-- A way and a tree at its end in a memory: looking at another place, and what writes make of them.
use Rattle.std.proofs.Common.{◌≡◌, ◌≢◌, ◌⊎◌, inl, inr, ℕ, ◌+◌, ◌-◌, ◌<◌, ◌≤◌, Bool, true, false, not, [], ◌∷◌, refl}
use Rattle.std.proofs.Common.{sym, ap, ◌∙◌, subst, arith, add-zero}
use Rattle.std.proofs.lemmas.Bool.Decides.{nat_tests}
use Rattle.std.proofs.lemmas.Bool.{cases_lt}
use Rattle.tx_alloc.specs.Pool.{IsBlock}
use Rattle.tx_alloc.specs.Rows.{times}
use Rattle.tx_tree.specs.Tree.{Tree, leaf, node, join}
use Rattle.tx_tree.specs.Way.{Way, top, step, plug, under}
use Rattle.tx_tree.specs.Hangs.{IsNodeOfRow, Hangs, has, off, link_of, HangsWay, way_has, Zip}

pub off_range : (b : Bool) → (1 ≤ off b) × (off b ≤ 2)
off_range true = (omega arith, omega arith)
off_range false = (omega arith, omega arith)

pub off_across : (b : Bool) → 3 - off b ≡ off (not b)
off_across true = refl
off_across false = refl

pub one_self : (k x v : ℕ) → v ≡ x → times v ((k, x) ∷ []) ≡ 1
one_self k x v e = grind (arith, nat_tests)

pub self_one : (k x v : ℕ) → 0 < times v ((k, x) ∷ []) → v ≡ x
self_one k x v e = grind (arith, nat_tests)

-- the four words of each block are as before
pub hangs_frame : (m m' : ℕ → ℕ) (n p : ℕ) (t : Tree) → ((a k : ℕ) → 0 < has a t → k < 4 → m' (a + k) ≡ m (a + k)) →
    Hangs m n p t → Hangs m' n p t
hangs_frame m m' n p leaf same h = h
hangs_frame m m' n p (node c l (k, a) t) same (i, (hl, ht)) =
    let root : 0 < has a (node c l (k, a) t) = omega (arith, one_self k a a refl) in (
      record {
        at = i.at;
        block = i.block;
        key = rw add-zero at (same a 0 root (omega arith)) ∙ i.key;
        colour = same a 3 root (omega arith) ∙ i.colour;
      },
      (
        rw (same a 1 root (omega arith)) (hangs_frame m m' n (m (a + 1)) l
            (λ x j q z. same x j (omega (arith, q)) z) hl),
        rw (same a 2 root (omega arith)) (hangs_frame m m' n (m (a + 2)) t
            (λ x j q z. same x j (omega (arith, q)) z) ht),
      ),
    )

pub has_block : (m : ℕ → ℕ) (n p x : ℕ) (t : Tree) → Hangs m n p t → 0 < has x t → IsBlock n x
has_block m n p x leaf h i = absurd (omega arith)
has_block m n p x (node c l (k, a) t) (r, (hl, ht)) i = grind (
  arith,
  nat_tests,
  cases_lt 0 (has x l),
  has_block m n (m (a + 1)) x l hl,
  cases_lt 0 (has x t),
  has_block m n (m (a + 2)) x t ht,
  self_one k a x,
)

pub way_block : (m : ℕ → ℕ) (n root x : ℕ) (w : Way) → HangsWay m n root w → 0 < way_has x w → IsBlock n x
way_block m n root x top h i = absurd (omega arith)
way_block m n root x (step right c (k, a) o w) (r, (ho, hw)) i =
    grind (
      arith,
      nat_tests,
      cases_lt 0 (has x o),
      has_block m n (m (a + off (not right))) x o ho,
      cases_lt 0 (way_has x w),
      way_block m n root x w hw,
      self_one k a x,
    )

-- the word that leads to the hole is the root, or a linking word of a block of the way
pub record InBlock (w : Way) (x : ℕ) : Type 0 where
  pub block : ℕ
  pub place : ℕ
  pub there : 0 < way_has block w
  pub low : 1 ≤ place
  pub high : place ≤ 2
  pub is : x ≡ block + place

pub link_is : (root : ℕ) (w : Way) → (link_of root w ≡ root) ⊎ InBlock w (link_of root w)
link_is root top = inl refl
link_is root (step right c (k, a) o w) = grind (arith, nat_tests, one_self k a a, off_range right)

link_same : (m m' : ℕ → ℕ) (root : ℕ) (w : Way) → m' root ≡ m root →
    ((a k : ℕ) → 0 < way_has a w → k < 4 → m' (a + k) ≡ m (a + k)) → m' (link_of root w) ≡ m (link_of root w)
link_same m m' root w at same = grind (arith, nat_tests, link_is root w)

pub way_same : (m m' : ℕ → ℕ) (n root : ℕ) (w : Way) → m' root ≡ m root →
    ((a k : ℕ) → 0 < way_has a w → k < 4 → m' (a + k) ≡ m (a + k)) → HangsWay m n root w → HangsWay m' n root w
way_same m m' n root top at same h = tt
way_same m m' n root (step right c (k, a) o w) at same (i, (ho, hw)) =
    let self : 0 < way_has a (step right c (k, a) o w) = omega (arith, one_self k a a refl) in
    let above : (x j : ℕ) → 0 < way_has x w → j < 4 → m' (x + j) ≡ m (x + j) =
    λ x j q z. same x j (omega (arith, q)) z in
    let far : m' (a + off (not right)) ≡ m (a + off (not right)) =
    same a (off (not right)) self (omega (arith, off_range (not right))) in (
      record {
        at = link_same m m' root w at above ∙ i.at;
        block = i.block;
        key = rw add-zero at (same a 0 self (omega arith)) ∙ i.key;
        colour = same a 3 self (omega arith) ∙ i.colour;
      },
      (
        rw far (hangs_frame m m' n (m (a + off (not right))) o (λ x j q z. same x j (omega (arith, q)) z) ho),
        way_same m m' n root w at above hw,
      ),
    )

-- all words of the way's blocks but the one that leads to the hole are as before
pub way_frame : (m m' : ℕ → ℕ) (n root : ℕ) (w : Way) → root < 16 → ((x : ℕ) → way_has x w ≤ 1) →
    (root ≢ link_of root w → m' root ≡ m root) → ((a k : ℕ) → 0 < way_has a w → k < 4 → a + k ≢ link_of root w →
    m' (a + k) ≡ m (a + k)) → HangsWay m n root w → HangsWay m' n root w
way_frame m m' n root top low once at same h = tt
way_frame m m' n root (step right c (k, a) o w) low once at same (i, (ho, hw)) =
    let self : 0 < way_has a (step right c (k, a) o w) = omega (arith, one_self k a a refl) in
    let bounds = off_range right in let bounds' = off_range (not right) in let across = off_across right in
    let ib = i.block.1.1 in
    let root_same : m' root ≡ m root = at (λ e. absurd (omega (arith, ib))) in
    let beside : (x j : ℕ) → 0 < has x o → j < 4 → m' (x + j) ≡ m (x + j) = λ x j q z.
    let b = has_block m n (m (a + off (not right))) x o ho q in
    same x j (omega (arith, q)) z (λ e. let ne : x ≡ a = omega (arith, b.1.1) in
    absurd (omega (arith, once x, q, one_self k a x ne))) in
    let above : (x j : ℕ) → 0 < way_has x w → j < 4 → m' (x + j) ≡ m (x + j) = λ x j q z.
    let b = way_block m n root x w hw q in
    same x j (omega (arith, q)) z (λ e. let ne : x ≡ a = omega (arith, b.1.1) in
    absurd (omega (arith, once x, q, one_self k a x ne))) in
    let far : m' (a + off (not right)) ≡ m (a + off (not right)) =
    same a (off (not right)) self (omega arith) (omega arith) in (
      record {
        at = link_same m m' root w root_same above ∙ i.at;
        block = i.block;
        key = rw add-zero at (same a 0 self (omega arith) (omega arith)) ∙ i.key;
        colour = same a 3 self (omega arith) (omega arith) ∙ i.colour;
      },
      (rw far (hangs_frame m m' n (m (a + off (not right))) o beside ho), way_same m m' n root w root_same above hw),
    )

-- a node by its near and far side
pub record Joined (m : ℕ → ℕ) (n p : ℕ) (right c : Bool) (near : Tree) (r : ℕ × ℕ) (far : Tree) : Type 0 where
  pub is_node : IsNodeOfRow m n p c r
  pub on_near : Hangs m n (m (r.1 + off right)) near
  pub on_far : Hangs m n (m (r.1 + off (not right))) far

pub joined : (m : ℕ → ℕ) (n p : ℕ) (right c : Bool) (near : Tree) (r : ℕ × ℕ) (far : Tree) →
    Hangs m n p (join right c near r far) → Joined m n p right c near r far
joined m n p false c near r far (i, (hn, hf)) = record { is_node = i; on_near = hn; on_far = hf }
joined m n p true c near r far (i, (hf, hn)) = record { is_node = i; on_near = hn; on_far = hf }

pub rejoined : (m : ℕ → ℕ) (n p : ℕ) (right c : Bool) (near : Tree) (r : ℕ × ℕ) (far : Tree) →
    Joined m n p right c near r far → Hangs m n p (join right c near r far)
rejoined m n p false c near r far j = (j.is_node, (j.on_near, j.on_far))
rejoined m n p true c near r far j = (j.is_node, (j.on_far, j.on_near))

pub has_join : (right c : Bool) (near : Tree) (r : ℕ × ℕ) (far : Tree) (x : ℕ) →
    has x (join right c near r far) ≡ times x (r ∷ []) + (has x near + has x far)
has_join false c near r far x = refl
has_join true c near r far x = omega arith

-- the hole goes down, or up
pub down : (m : ℕ → ℕ) (n root : ℕ) (total : ℕ → ℕ) (w : Way) (right c : Bool) (near : Tree) (r : ℕ × ℕ) (far : Tree) →
    Zip m n root total w (join right c near r far) → Zip m n root total (step right c r far w) near
down m n root total w right c near r far z = grind (
  arith,
  nat_tests,
  joined m n (m (link_of root w)) right c near r far z.tree,
  has_join right c near r far,
)

pub up : (m : ℕ → ℕ) (n root : ℕ) (total : ℕ → ℕ) (w : Way) (right c : Bool) (near : Tree) (r : ℕ × ℕ) (far : Tree) →
    Zip m n root total (step right c r far w) near → Zip m n root total w (join right c near r far)
up m n root total w right c near r far z = grind (
  arith,
  nat_tests,
  rejoined m n (m (link_of root w)) right c near r far,
  has_join right c near r far,
)

pub up_under : (m : ℕ → ℕ) (n root : ℕ) (total : ℕ → ℕ) (v w : Way) (t : Tree) → Zip m n root total (under v w) t →
    Zip m n root total w (plug v t)
up_under m n root total top w t z = z
up_under m n root total (step right c r o v) w t z = up_under m n root total v w (join right c t r o)
    (up m n root total (under v w) right c t r o z)

pub down_under : (m : ℕ → ℕ) (n root : ℕ) (total : ℕ → ℕ) (v w : Way) (t : Tree) → Zip m n root total w (plug v t) →
    Zip m n root total (under v w) t
down_under m n root total top w t z = z
down_under m n root total (step right c r o v) w t z = down m n root total (under v w) right c t r o
    (down_under m n root total v w (join right c t r o) z)

-- the word that leads to the hole is no word of a block that is not in the way
pub link_away : (m : ℕ → ℕ) (n root : ℕ) (w : Way) (b j : ℕ) → root < 16 → HangsWay m n root w → IsBlock n b →
    way_has b w ≡ 0 → j < 8 → link_of root w ≢ b + j
link_away m n root w b j low h block none l e = grind (arith, nat_tests, link_is root w, way_block m n root)

-- a word of a block of the way
pub record InWay (w : Way) (x : ℕ) : Type 0 where
  pub block : ℕ
  pub place : ℕ
  pub there : 0 < way_has block w
  pub high : place < 4
  pub is : x ≡ block + place

-- what is written in a block outside of the way, and at the word that leads to the hole, keeps the way
pub way_kept : (m m' : ℕ → ℕ) (n root : ℕ) (w : Way) → root < 16 → ((x : ℕ) → way_has x w ≤ 1) → HangsWay m n root w →
    ((x : ℕ) → x ≢ link_of root w → ((x ≡ root) ⊎ InWay w x) → m' x ≡ m x) → HangsWay m' n root w
way_kept m m' n root w low once h same = grind (arith, nat_tests, way_frame m m' n root w low once)

-- such a word, or the root, is no word of a block that is not in the way
pub way_away : (m : ℕ → ℕ) (n root : ℕ) (w : Way) (b x j : ℕ) → root < 16 → HangsWay m n root w → IsBlock n b →
    way_has b w ≡ 0 → j < 8 → (x ≡ root) ⊎ InWay w x → x ≢ b + j
way_away m n root w b x j low h block none l s e = grind (arith, nat_tests, way_block m n root)
