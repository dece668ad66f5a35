-- The least node of the right side takes the place of a node that goes, in one memory.
use Rattle.std.proofs.Common.{◌≡◌, inl, inr, ℕ, ◌+◌, ◌-◌, Bool, true, false, cond, nat_eq, [], ◌∷◌, ◌++◌, refl, sym, ap}
use Rattle.std.proofs.Common.{◌∙◌, subst, arith}
use Rattle.tx_memory.specs.Seen.{same_or}
use Rattle.tx_memory.specs.View.{IsWrite}
use Rattle.tx_alloc.specs.Pool.{with_block}
use Rattle.tx_alloc.specs.Rows.{Rows}
use Rattle.tx_tree.specs.Tree.{Tree, leaf, node, rows, blacks, is_red, IsEven, IsApart}
use Rattle.tx_tree.specs.Way.{Way, top, step, plug, under, front, behind, IsEvenWay, IsApartWay}
use Rattle.tx_tree.specs.Balance.{Sound}
use Rattle.tx_tree.specs.Hangs.{link_of, Zip, Touches, without_block}
use Rattle.tx_tree.proofs.Shapes.{even_plug, even_parts, apart_plug, apart_parts, rows_plug, plug_under}
use Rattle.tx_tree.proofs.Zipped.{up, down, up_under, down_under, link_away}
use Rattle.tx_tree.proofs.Writes.{touches_both, touches_more, at_node}
use Rattle.tx_tree.proofs.Moves.{block_count, without_count, recounted, unlinked, replaced}

-- the row of a node in the midst of a way does not matter for black nodes and colours
even_under : (v : Way) (s c : Bool) (x y : ℕ × ℕ) (o : Tree) (w : Way) (h : ℕ) →
    IsEvenWay (under v (step s c x o w)) h → IsEvenWay (under v (step s c y o w)) h
even_under top s c x y o w h e = e
even_under (step s' c' x' o' v) s c x y o w h e = (e.0, even_under v s c x y o w (h + cond c' 0 1) e.1)

apart_under : (v : Way) (s c : Bool) (x y : ℕ × ℕ) (o : Tree) (w : Way) (red : Bool) →
    IsApartWay (under v (step s c x o w)) red → IsApartWay (under v (step s c y o w)) red
apart_under top s c x y o w red e = e
apart_under (step s' c' x' o' v) s c x y o w red e = (e.0, e.1, apart_under v s c x y o w c' e.2)

-- the place of the least node, with another row in the midst of the way
pub record NextParts (v : Way) (c cn : Bool) (x : ℕ × ℕ) (l : Tree) (w : Way) (r : Tree) : Type 0 where
  pub even : IsEven r
  pub none : blacks r ≡ 0
  pub way : IsEvenWay (under v (step true c x l w)) (cond cn 0 1)
  pub apart : IsApart r
  pub fits : IsApartWay (under v (step true c x l w)) cn
  pub black : cn ≡ true → is_red r ≡ false

pub next_parts : (v : Way) (c cn : Bool) (x y : ℕ × ℕ) (l t : Tree) (w : Way) (r : Tree) (h : ℕ) →
    Sound w (node c l y t) h → plug v (node cn leaf x r) ≡ t → NextParts v c cn x l w r
next_parts v c cn x y l t w r h s is =
    let n = node cn leaf x r in
    let e : plug w (node c l y t) ≡ plug (under v (step true c y l w)) n =
    sym (plug_under v (step true c y l w) n ∙ ap (λ (z : Tree). plug w (node c l y z)) is) in
    let even' : IsEven (plug (under v (step true c y l w)) n) =
    subst (λ (z : Tree). IsEven z) e (even_plug w (node c l y t) h s.even s.way) in
    let a = apart_plug w (node c l y t) s.apart s.fits in
    let ap' : IsApart (plug (under v (step true c y l w)) n) = subst (λ (z : Tree). IsApart z) e a.0 in
    let bl' : is_red (plug (under v (step true c y l w)) n) ≡ false = subst (λ (z : Tree). is_red z ≡ false) e a.1 in
    let p = even_parts (under v (step true c y l w)) n even' in
    let q = apart_parts (under v (step true c y l w)) n ap' bl' in
    let zero : 0 + cond {A = ℕ} cn 0 1 ≡ cond cn 0 1 = omega arith in
    record {
      even = p.0.2;
      none = sym p.0.0;
      way = even_under v true c y x l w (cond cn 0 1) (subst
          (λ (z : ℕ). IsEvenWay (under v (step true c y l w)) z) zero p.1);
      apart = q.0.2;
      fits = apart_under v true c y x l w cn q.1;
      black = λ red. (q.0.0 red).1;
    }

-- the rows without those of the node that goes
pub next_rows : (v : Way) (c cn : Bool) (x : ℕ × ℕ) (l t : Tree) (w : Way) (r : Tree) → front v ≡ [] →
    plug v (node cn leaf x r) ≡ t → rows (plug (under v (step true c x l w)) r) ≡ front w ++
    ((rows l ++ rows t) ++ behind w)
next_rows v c cn x l t w r first is =
    let a : rows t ≡ x ∷ (rows r ++ behind v) = ap rows (sym is) ∙
    (rows_plug v (node cn leaf x r) ∙ ap (λ (z : Rows). z ++ (x ∷ (rows r ++ behind v))) first) in
    let b : rows (plug v r) ≡ rows r ++ behind v = rows_plug v r ∙ ap (λ (z : Rows). z ++ (rows r ++ behind v)) first in
    let e : rows (plug (under v (step true c x l w)) r) ≡ rows (plug w (node c l x (plug v r))) =
    ap rows (plug_under v (step true c x l w) r) in
    e ∙ (rows_plug w (node c l x (plug v r)) ∙ ap (λ (z : Rows). front w ++ ((rows l ++ z) ++ behind w))
    (ap (λ (z : Rows). x ∷ z) b ∙ sym a))

back_again : (total : ℕ → ℕ) (q : ℕ) → total q ≡ 1 → (x : ℕ) → with_block (without_block total q) q x ≡ total x
back_again total q one x = elim (same_or x q) [
  | inl e ↦ (let a = (block_count (without_block total q) q x).0 e in let b = (without_count total q x).0 e in
      let t : total x ≡ 1 = ap total e ∙ one in omega arith)
  | inr ne ↦ (let a = (block_count (without_block total q) q x).1 ne in let b = (without_count total q x).1 ne in
      omega arith)
]

-- the least node's right side takes its place, and then the node takes the place of the one that goes
pub next_gone : (m m1 ma mb mc m' : ℕ → ℕ) (n root : ℕ) (total : ℕ → ℕ) (v : Way) (c cn : Bool) (k b kn q : ℕ)
    (l : Tree) (w : Way) (r : Tree) (child v1 v2 v3 : ℕ)
    → Zip m n root total (under v (step true c (k, b) l w)) (node cn leaf (kn, q) r) → child ≡ m (q + 2) →
    IsWrite m m1 (link_of root (under v (step true c (k, b) l w))) child
    → m1 (b + 1) ≡ v1 → IsWrite m1 ma (q + 1) v1 → ma (b + 2) ≡ v2 → IsWrite ma mb (q + 2) v2 → mb (b + 3) ≡ v3 →
    IsWrite mb mc (q + 3) v3 → IsWrite mc m' (link_of root w) q
    → Zip m' n root (without_block total b) (under v (step true c (kn, q) l w)) r × Touches m m' root total
next_gone m m1 ma mb mc m' n root total v c cn k b kn q l w r child v1 v2 v3 z is w0 e1 w1 e2 w2 e3 w3 w4 =
    let a = at_node m n root total (under v (step true c (k, b) l w)) cn leaf kn q r z in
    let u = unlinked m m1 n root total (under v (step true c (k, b) l w)) false cn kn q r child z is w0 in
    let z1 = up_under m1 n root (without_block total q) v (step true c (k, b) l w) r u.0 in
    let z2 = up m1 n root (without_block total q) w true c (plug v r) (k, b) l z1 in
    let none : without_block total q q ≡ 0 = omega (arith, (without_count total q q).0 refl, a.counted) in
    let away = link_away m n root (under v (step true c (k, b) l w)) q 0 z.low z.way a.block a.not_above
    (omega arith) in
    let key : m1 q ≡ kn = w0.others q (λ e. absurd (omega (arith, away, e))) ∙ z.tree.0.key in
    let rp = replaced m1 ma mb mc m' n root (without_block total q) w c l k b
    (plug v r) kn q v1 v2 v3 z2 a.block none key e1 w1 e2 w2 e3 w3 w4 in
    let z3 = down m' n root (without_block (with_block (without_block total q) q) b) w true c (plug v r) (
      kn,
      q,
    ) l rp.0 in
    let z4 = down_under m' n root (without_block (with_block (without_block total q) q) b) v
    (step true c (kn, q) l w) r z3 in
    let same = back_again total q a.counted in (
      recounted m' n root (without_block (with_block (without_block total q) q) b) (without_block total b)
          (under v (step true c (kn, q) l w)) r (λ x. ap (λ (y : ℕ). y - cond (nat_eq b x) 1 0) (same x)) z4,
      touches_both m m1 m' root total u.1 (touches_more m1 m' root (with_block (without_block total q) q) total
          (λ x. omega (arith, same x)) rp.1),
    )
