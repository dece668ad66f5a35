-- A walk never runs out of levels.
use Rattle.std.proofs.Common.{◌≡◌, inl, inr, ℕ, ◌+◌, ◌*◌, ◌<◌, ◌≤◌, Bool, true, false, cond, List, [], ◌∷◌, zero, suc}
use Rattle.std.proofs.Common.{length, refl, ap, ◌∙◌, subst, arith, nat_eq}
use Rattle.std.specs.Prelude.{Result, Ok, Err}
use Rattle.std.proofs.lemmas.Bool.Decides.{nat_tests}
use Rattle.std.proofs.lemmas.Bool.{cases_lt}
use Rattle.tx_memory.specs.Seen.{same_or}
use Rattle.tx_alloc.specs.Pool.{IsBlock, held, sum_below, with_at}
use Rattle.tx_alloc.specs.Rows.{Rows}
use Rattle.vac_audit.specs.Tree.{rows}
use Rattle.vac_audit.specs.Walk.{then, wants, follow, Seen, Look, above, is_in_order, is_booking, is_key, look_at_item}
use Rattle.vac_audit.specs.Walk.{look_at_customer, walk_bookings, walk_tree, walk_table, walk_items, walk_free}
use Rattle.vac_audit.specs.Walk.{walk_lists, check_all_used, walk_by}
use Rattle.vac_audit.specs.Laws.{EnoughLevels}
use Rattle.vac_audit.specs.declared.Flaw.{Flaw}
use Rattle.vac_audit.proofs.Steps.{IsFresh, follow_ok, not_none}
use Rattle.vac_audit.proofs.Reaching.{Reaches}
use Rattle.vac_audit.proofs.Trees.{Own, Looked, tree_walked}
use Rattle.vac_audit.proofs.Looking.{bare, all_lists, GoodItem, GoodList, item_looked, customer_looked}
use Rattle.vac_audit.proofs.Walked.{nothing, count_blocks, items_walked, lists_walked, table_walked}

-- each block was reached once
pub record Fits (n : ℕ) (seen : List ℕ) : Type 0 where
  pub once : (x : ℕ) → held x seen ≤ 1
  pub blocks : (x : ℕ) → 0 < held x seen → IsBlock n x

fits_none : (n : ℕ) → Fits n []
fits_none n = record { once = λ x. omega arith; blocks = λ x o. absurd (omega (arith, o)) }

fits_one : (n p : ℕ) (seen : List ℕ) → IsBlock n p → held p seen ≡ 0 → Fits n seen → Fits n (p ∷ seen)
fits_one n p seen block fresh h = record {
  once = λ x. elim (same_or p x) [
    | inl e ↦ (
        let t : nat_eq p x ≡ true = grind (arith, nat_tests) in
        omega (arith, ap (λ (b : Bool). cond {A = ℕ} b 1 0) t, subst (λ (z : ℕ). held z seen ≡ 0) e fresh))
    | inr ne ↦ (
        let t : nat_eq p x ≡ false = grind (arith, nat_tests) in
        omega (arith, ap (λ (b : Bool). cond {A = ℕ} b 1 0) t, h.once x))
  ];
  blocks = λ x o. elim (same_or p x) [
    | inl e ↦ subst (λ (z : ℕ). IsBlock n z) e block
    | inr ne ↦ (
        let t : nat_eq p x ≡ false = grind (arith, nat_tests) in
        h.blocks x (omega (arith, o, ap (λ (b : Bool). cond {A = ℕ} b 1 0) t)))
  ];
}

fits_after : (n : ℕ) (seen seen' : List ℕ) (count : ℕ → ℕ) (many : ℕ) → Fits n seen → Reaches n seen seen' count many →
    Fits n seen'
fits_after n seen seen' count many h r = record {
  once = λ x. elim (cases_lt 0 (count x)) [
    | inl some ↦ omega (arith, r.once x some)
    | inr none ↦ omega (arith, none, r.counts x, h.once x)
  ];
  blocks = λ x o. elim (cases_lt 0 (count x)) [
    | inl some ↦ r.blocks x some
    | inr none ↦ h.blocks x (omega (arith, none, r.counts x, o))
  ];
}

at_most : (k : ℕ) (f : ℕ → ℕ) → ((i : ℕ) → f i ≤ 1) → sum_below k f ≤ k
at_most zero f h = omega arith
at_most (suc k) f h = omega (arith, h k, at_most k f h)

-- no more blocks are reached than exist
few_seen : (blocks : ℕ) (seen : List ℕ) → Fits (16 + 8 * blocks) seen → length seen ≤ blocks
few_seen blocks seen h = omega (
  arith,
  count_blocks blocks seen h.blocks,
  at_most blocks (λ b. held (16 + 8 * b) seen) (λ b. h.once (16 + 8 * b)),
)

-- two walks with equal parts are equal
then_same : {A B : Type 0} (x x' : Result A Flaw) (k k' : A → Result B Flaw) → x ≡ x' →
    ((a : A) → x ≡ Ok a → k a ≡ k' a) → then x k ≡ then x' k'
then_same {A} {B} x x' k k' e f = go x refl ∙ ap (λ (z : Result A Flaw). then z k') e
  where
    go : (y : Result A Flaw) → x ≡ y → then y k ≡ then y k'
    go (Ok a) q = f a q
    go (Err b) q = refl

enter_same : {A : Type 0} (m : ℕ → ℕ) (n a : ℕ) (seen : List ℕ) (x : Result A Flaw) (k k' : ℕ → Result A Flaw) →
    ((p : ℕ) → IsFresh m n a seen p → k p ≡ k' p)
    → then (follow m n a seen) (λ p. cond (nat_eq p 0) x (k p)) ≡ then (follow m n a seen)
    (λ p. cond (nat_eq p 0) x (k' p))
enter_same {A} m n a seen x k k' f = then_same (follow m n a seen) (follow m n a seen) _ _ refl (λ p e.
    elim (follow_ok m n a seen p e) [
      | inl w ↦ (let t : nat_eq p 0 ≡ true = grind (arith, nat_tests, w.0) in rw t refl)
      | inr h ↦ (let t : nat_eq p 0 ≡ false = not_none n p h.block in rw t (f p h))
    ])

module _ (m : ℕ → ℕ) (blocks : ℕ) where
  abbrev n : ℕ
  n = 16 + 8 * blocks

  -- more levels are left than blocks that were not reached
  abbrev Enough : ℕ → List ℕ → Type 0
  Enough levels seen = blocks < levels + length seen

  free_same : (levels levels' a : ℕ) (seen : List ℕ) → Fits n seen → Enough levels seen → Enough levels' seen →
      walk_free m n levels a seen ≡ walk_free m n levels' a seen
  free_same zero levels' a seen h l l' = absurd (omega (arith, l, few_seen blocks seen h))
  free_same (suc levels) zero a seen h l l' = absurd (omega (arith, l', few_seen blocks seen h))
  free_same (suc levels) (suc levels') a seen h l l' = enter_same m n a seen _ _ _ (λ p fresh.
      then_same (walk_free m n levels p (p ∷ seen)) (walk_free m n levels' p (p ∷ seen)) _ _
      (free_same levels levels' p (p ∷ seen) (fits_one n p seen fresh.block fresh.fresh h) (omega (arith, l))
      (omega (arith, l'))) (λ x e. refl))

  bookings_same : (tables : ℕ → Rows) (levels levels' a lo : ℕ) (seen : List ℕ) → Fits n seen → Enough levels seen →
      Enough levels' seen
      → walk_bookings m n tables levels a lo seen ≡ walk_bookings m n tables levels' a lo seen
  bookings_same tables zero levels' a lo seen h l l' = absurd (omega (arith, l, few_seen blocks seen h))
  bookings_same tables (suc levels) zero a lo seen h l l' = absurd (omega (arith, l', few_seen blocks seen h))
  bookings_same tables (suc levels) (suc levels') a lo seen h l l' = enter_same m n a seen _ _ _ (λ p fresh.
      then_same (wants (is_in_order m p lo) _) (wants (is_in_order m p lo) _) _ _ refl (λ u e.
      then_same (wants (is_booking m tables p) _) (wants (is_booking m tables p) _) _ _ refl (λ u' e'.
      then_same (walk_bookings m n tables levels (p + 3) _ (p ∷ seen))
      (walk_bookings m n tables levels' (p + 3) _ (p ∷ seen)) _ _
      (bookings_same tables levels levels' (p + 3) _ (p ∷ seen) (fits_one n p seen fresh.block fresh.fresh h)
      (omega (arith, l)) (omega (arith, l'))) (λ x e''. refl))))

  -- two tests of nodes with equal results
  abbrev SameLooks : Look → Look → Type 0
  SameLooks look look' = (p : ℕ) (s : Seen) → Fits n s.blocks → look p s ≡ look' p s

  module _ (look look' : Look) (own : Own) (Good : ℕ → Rows → Type 0) (looks : (p : ℕ) (s s' : Seen) →
      look p s ≡ Ok s' → Looked n own Good p s s') (same : SameLooks look look') where
    tree_same : (levels levels' a lo : ℕ) (s : Seen) → Fits n s.blocks → Enough levels s.blocks →
        Enough levels' s.blocks
        → walk_tree m n look levels a lo s ≡ walk_tree m n look' levels' a lo s
    tree_same zero levels' a lo s h l l' = absurd (omega (arith, l, few_seen blocks s.blocks h))
    tree_same (suc levels) zero a lo s h l l' = absurd (omega (arith, l', few_seen blocks s.blocks h))
    tree_same (suc levels) (suc levels') a lo s h l l' = enter_same m n a s.blocks _ _ _ (λ p fresh.
        let hp = fits_one n p s.blocks fresh.block fresh.fresh h in
        let sp : Seen = record s { blocks = p ∷ s.blocks } in
        then_same (walk_tree m n look levels (p + 1) lo sp) (walk_tree m n look' levels' (p + 1) lo sp) _ _
        (tree_same levels levels' (p + 1) lo sp hp (omega (arith, l)) (omega (arith, l'))) (λ x e.
        let left = tree_walked m n look own Good looks levels (p + 1) lo sp x e in
        let hl = fits_after n sp.blocks x.1.blocks _ _ hp left.reaches in
        then_same (wants (is_key m p (above lo (rows x.0))) _) (wants (is_key m p (above lo (rows x.0))) _) _ _ refl
        (λ u eu.
        then_same (look p x.1) (look' p x.1) _ _ (same p x.1 hl) (λ s' es.
        let here = looks p x.1 s' es in
        let hs = fits_after n x.1.blocks s'.blocks _ _ hl here.reaches in
        then_same (walk_tree m n look levels (p + 2) (m p + 1) s')
        (walk_tree m n look' levels' (p + 2) (m p + 1) s') _ _
        (tree_same levels levels' (p + 2) (m p + 1) s' hs (omega (arith, l, left.reaches.more, here.reaches.more))
        (omega (arith, l', left.reaches.more, here.reaches.more))) (λ y f. refl)))))

    table_same : (levels levels' root : ℕ) (s : Seen) → Fits n s.blocks → blocks < levels → blocks < levels' →
        walk_table m n look levels root s ≡ walk_table m n look' levels' root s
    table_same levels levels' root s h l l' =
        then_same (walk_tree m n look levels root 1 s) (walk_tree m n look' levels' root 1 s) _ _
        (tree_same levels levels' root 1 s h (omega (arith, l)) (omega (arith, l'))) (λ x e. refl)

  items_same : (levels levels' k : ℕ) → blocks < levels → blocks < levels' →
      walk_items m n levels k nothing ≡ walk_items m n levels' k nothing
  items_same levels levels' zero l l' = refl
  items_same levels levels' (suc k) l l' =
      then_same (walk_items m n levels k nothing) (walk_items m n levels' k nothing) _ _
      (items_same levels levels' k l l') (λ x e.
      let h = fits_after n [] x.1.blocks _ _ (fits_none n) (items_walked m n levels k x e).reaches in
      then_same (walk_table m n (look_at_item m) levels (1 + k) x.1)
      (walk_table m n (look_at_item m) levels' (1 + k) x.1) _ _
      (table_same (look_at_item m) (look_at_item m) bare (GoodItem m) (item_looked m n) (λ p s f. refl) levels levels'
      (1 + k) x.1 h l l') (λ y f. refl))

  lists_same : (levels levels' k : ℕ) (seen : List ℕ) → Fits n seen → blocks < levels → blocks < levels' →
      walk_lists m n levels k seen ≡ walk_lists m n levels' k seen
  lists_same levels levels' zero seen h l l' = refl
  lists_same levels levels' (suc k) seen h l l' =
      then_same (walk_lists m n levels k seen) (walk_lists m n levels' k seen) _ _
      (lists_same levels levels' k seen h l l') (λ x e.
      let g = fits_after n seen x.1 _ _ h (lists_walked m n levels k seen x e).reaches in
      then_same (walk_free m n levels (8 + k) x.1) (walk_free m n levels' (8 + k) x.1) _ _
      (free_same levels levels' (8 + k) x.1 g (omega (arith, l)) (omega (arith, l'))) (λ y f. refl))

  customer_same : (tables : ℕ → Rows) (levels levels' : ℕ) → blocks < levels → blocks < levels' →
      SameLooks (look_at_customer m n tables levels) (look_at_customer m n tables levels')
  customer_same tables levels levels' l l' p s h =
      then_same (walk_bookings m n tables levels (p + 4) 0 s.blocks)
      (walk_bookings m n tables levels' (p + 4) 0 s.blocks) _ _
      (bookings_same tables levels levels' (p + 4) 0 s.blocks h (omega (arith, l)) (omega (arith, l'))) (λ x e. refl)

  pub same_walk : (levels levels' : ℕ) → blocks < levels → blocks < levels' →
      walk_by m blocks levels ≡ walk_by m blocks levels'
  same_walk levels levels' l l' =
      then_same (walk_items m n levels 3 nothing) (walk_items m n levels' 3 nothing) _ _
      (items_same levels levels' 3 l l') (λ items ei.
      let hi = fits_after n [] items.1.blocks _ _ (fits_none n) (items_walked m n levels 3 items ei).reaches in
      let look : Look = look_at_customer m n items.0 levels in
      let look' : Look = look_at_customer m n items.0 levels' in
      then_same (walk_table m n look levels 4 items.1) (walk_table m n look' levels' 4 items.1) _ _
      (table_same look look' all_lists (GoodList m n items.0) (customer_looked m n items.0 levels)
      (customer_same items.0 levels levels' l l') levels levels' 4 items.1 hi l l') (λ customers ec.
      let wc = table_walked m n look all_lists (GoodList m n items.0)
      (customer_looked m n items.0 levels) levels 4 items.1 customers ec in
      let hc = fits_after n items.1.blocks customers.1.blocks _ _ hi wc.reaches in
      then_same (check_all_used m (with_at items.0 3 customers.0) customers.1.lists 3)
      (check_all_used m (with_at items.0 3 customers.0) customers.1.lists 3) _ _ refl (λ u eu.
      then_same (walk_lists m n levels 8 customers.1.blocks) (walk_lists m n levels' 8 customers.1.blocks) _ _
      (lists_same levels levels' 8 customers.1.blocks hc l l') (λ free ef. refl))))

pub enough_levels : EnoughLevels
enough_levels m blocks levels l = same_walk m blocks levels (suc blocks) l (omega arith)
