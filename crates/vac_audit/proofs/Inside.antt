-- Each flaw is met at a word of the heap.
use Rattle.std.proofs.Common.{◌≡◌, ◌⊎◌, inl, inr, ℕ, ◌+◌, ◌*◌, ◌^◌, ◌<◌, ◌≤◌, Bool, true, false, cond, List, [], ◌∷◌}
use Rattle.std.proofs.Common.{zero, suc, refl, sym, ap, subst, arith, nat_eq}
use Rattle.std.specs.Prelude.{Result, Ok, Err, not}
use Rattle.std.proofs.lemmas.Bool.Decides.{nat_tests}
use Rattle.tx_alloc.specs.Pool.{IsBlock, held, with_at}
use Rattle.tx_alloc.proofs.Sums.{with_else}
use Rattle.tx_alloc.proofs.Times.{times_first, times_more}
use Rattle.tx_alloc.specs.Rows.{Rows, times}
use Rattle.vac_records.specs.Heap.{over}
use Rattle.vac_audit.specs.Tree.{Tree, leaf, node, rows, is_red, Hangs}
use Rattle.vac_audit.specs.Walk.{then, wants, follow, is_place, Seen, Look, above, is_in_order, is_booking, is_item}
use Rattle.vac_audit.specs.Walk.{is_key, is_coloured, units_in, look_at_item, look_at_customer, walk_bookings}
use Rattle.vac_audit.specs.Walk.{walk_tree, walk_table, walk_items, walk_free, walk_lists, check_used, check_all_used}
use Rattle.vac_audit.specs.Walk.{check_reached, walk}
use Rattle.vac_audit.specs.Laws.{word_of, FlawInside}
use Rattle.vac_audit.specs.declared.Flaw.{Flaw}
use Rattle.vac_audit.specs.declared.Flaw.TheVariants.{Pointer, Shared, Lost, Order, Colour, Counts, Bookings}
use Rattle.vac_audit.proofs.Steps.{IsFresh, follow_ok}
use Rattle.vac_audit.proofs.Trees.{Own, Looked, tree_walked}
use Rattle.vac_audit.proofs.Looking.{bare, all_lists, GoodItem, GoodList, item_looked, customer_looked}
use Rattle.vac_audit.proofs.Found.{table_block}
use Rattle.vac_audit.proofs.Walked.{nothing, items_walked}

-- if a walk of two parts met a flaw, one of the parts did
both_err : {A B : Type 0} (G : Type 0) (x : Result A Flaw) (k : A → Result B Flaw) (f : Flaw) → then x k ≡ Err f →
    (x ≡ Err f → G) → ((a : A) → x ≡ Ok a → k a ≡ Err f → G) → G
both_err {A} {B} G (Ok a) k f e first next = next a refl e
both_err {A} {B} G (Err g) k f e first next =
    let q : g ≡ f = let z : ◌≡◌ {A = Result B Flaw} (Err g) (Err f) = e in cc in
    first (ap (λ (y : Flaw). Err y) q)

none_met : {A : Type 0} (G : Type 0) (a : A) (f : Flaw) → ◌≡◌ {A = Result A Flaw} (Ok a) (Err f) → G
none_met G a f e = absurd (let q : Ok a ≡ Err f = e in cc)

wants_err : (t : Bool) (g f : Flaw) → wants t g ≡ Err f → (t ≡ false) × (g ≡ f)
wants_err true g f e = absurd (let q : ◌≡◌ {A = Result (Unit {0}) Flaw} (Ok tt) (Err f) = e in cc)
wants_err false g f e = (refl, (let q : ◌≡◌ {A = Result (Unit {0}) Flaw} (Err g) (Err f) = e in cc))

test_err : {B : Type 0} (G : Type 0) (t : Bool) (g : Flaw) (k : Unit {0} → Result B Flaw) (f : Flaw) →
    then (wants t g) k ≡ Err f → (t ≡ false → g ≡ f → G) → (k tt ≡ Err f → G) → G
test_err {B} G t g k f e failed next = both_err G (wants t g) k f e (λ q. (let w = wants_err t g f q in failed w.0 w.1))
    (λ u q r. next r)

follow_err : (m : ℕ → ℕ) (n a : ℕ) (seen : List ℕ) (f : Flaw) → follow m n a seen ≡ Err f → word_of f ≡ a
follow_err m n a seen f e = go (nat_eq (m a) 0) (is_place n (m a)) (nat_eq (held (m a) seen) 0) e
  where
    go : (z u v : Bool) → cond z (Ok 0) (cond u (cond v (Ok (m a)) (Err (Shared a))) (Err (Pointer a))) ≡ Err f →
        word_of f ≡ a
    go true u v e = none_met _ 0 f e
    go false true true e = none_met _ (m a) f e
    go false true false e = let q : Shared a ≡ f = (let z : ◌≡◌ {A = Result ℕ Flaw} (Err (Shared a)) (Err f) = e in
        cc) in ap word_of (sym q)
    go false false v e = let q : Pointer a ≡ f = (let z : ◌≡◌ {A = Result ℕ Flaw} (Err (Pointer a)) (Err f) = e in
        cc) in ap word_of (sym q)

-- a walk that follows the pointer in word a, and meets a flaw
enter_err : {A : Type 0} (G : Type 0) (m : ℕ → ℕ) (n a : ℕ) (seen : List ℕ) (x : A) (k : ℕ → Result A Flaw) (f : Flaw)
    → then (follow m n a seen) (λ p. cond (nat_eq p 0) (Ok x) (k p)) ≡ Err f → (word_of f ≡ a → G) →
    ((p : ℕ) → IsFresh m n a seen p → k p ≡ Err f → G) → G
enter_err {A} G m n a seen x k f e here go = both_err G (follow m n a seen) _ f e
    (λ q. here (follow_err m n a seen f q)) (λ p q r. at p (follow_ok m n a seen p q) (nat_eq p 0) refl r)
  where
    at : (p : ℕ) → ((p ≡ 0) × (m a ≡ 0)) ⊎ IsFresh m n a seen p → (z : Bool) → nat_eq p 0 ≡ z →
        cond z (Ok x) (k p) ≡ Err f → G
    at p w true t r = none_met G x f r
    at p (inl w) false t r = absurd (let q = w.0 in grind (arith, nat_tests))
    at p (inr h) false t r = go p h r

module _ (m : ℕ → ℕ) (n : ℕ) where
  abbrev In : Flaw → Type 0
  In f = word_of f < n

  is_in : (g f : Flaw) → In g → g ≡ f → In f
  is_in g f l e = subst In e l

  err_in : {A : Type 0} (g f : Flaw) → In g → ◌≡◌ {A = Result A Flaw} (Err g) (Err f) → In f
  err_in g f l e = is_in g f l (let q : Err g ≡ Err f = e in cc)

  free_in : (levels a : ℕ) (seen : List ℕ) (f : Flaw) → a < n → walk_free m n levels a seen ≡ Err f → In f
  free_in zero a seen f l e = err_in (Shared a) f l e
  free_in (suc levels) a seen f l e = enter_err (In f) m n a seen _ _ f e (λ w. omega (arith, w, l)) (λ p h q.
      both_err (In f) (walk_free m n levels p (p ∷ seen)) _ f q
      (λ r. free_in levels p (p ∷ seen) f (omega (arith, h.block.1.0)) r) (λ x r s. none_met _ _ f s))

  bookings_in : (tables : ℕ → Rows) (levels a lo : ℕ) (seen : List ℕ) (f : Flaw) → a < n →
      walk_bookings m n tables levels a lo seen ≡ Err f → In f
  bookings_in tables zero a lo seen f l e = err_in (Shared a) f l e
  bookings_in tables (suc levels) a lo seen f l e = enter_err (In f) m n a seen _ _ f e (λ w. omega (arith, w, l))
      (λ p h q.
      test_err (In f) (is_in_order m p lo) (Order p) _ f q (λ t w. is_in (Order p) f (omega (arith, h.block.1.0)) w)
      (λ q1.
      test_err (In f) (is_booking m tables p) (Bookings p) _ f q1
      (λ t w. is_in (Bookings p) f (omega (arith, h.block.1.0)) w) (λ q2.
      both_err (In f) (walk_bookings m n tables levels (p + 3) _ (p ∷ seen)) _ f q2
      (λ r. bookings_in tables levels (p + 3) _ (p ∷ seen) f (omega (arith, h.block.1.0)) r)
      (λ x r s. none_met _ _ f s))))

  abbrev LooksIn : Look → Type 0
  LooksIn look = (p : ℕ) (s : Seen) (f : Flaw) → IsBlock n p → look p s ≡ Err f → In f

  item_in : LooksIn (look_at_item m)
  item_in p s f b e = test_err (In f) (is_item m p) (Counts (p + 4)) _ f e
      (λ t w. is_in (Counts (p + 4)) f (omega (arith, b.1.0)) w) (λ q. none_met _ _ f q)

  customer_in : (tables : ℕ → Rows) (levels : ℕ) → LooksIn (look_at_customer m n tables levels)
  customer_in tables levels p s f b e =
      both_err (In f) (walk_bookings m n tables levels (p + 4) 0 s.blocks) _ f e
      (λ r. bookings_in tables levels (p + 4) 0 s.blocks f (omega (arith, b.1.0)) r) (λ x r q. none_met _ _ f q)

  tree_in : (look : Look) → LooksIn look → (levels a lo : ℕ) (s : Seen) (f : Flaw) → a < n →
      walk_tree m n look levels a lo s ≡ Err f → In f
  tree_in look looks zero a lo s f l e = err_in (Shared a) f l e
  tree_in look looks (suc levels) a lo s f l e = enter_err (In f) m n a s.blocks _ _ f e (λ w. omega (arith, w, l))
      (λ p h q.
      let sp : Seen = record s { blocks = p ∷ s.blocks } in
      both_err (In f) (walk_tree m n look levels (p + 1) lo sp) _ f q
      (λ r. tree_in look looks levels (p + 1) lo sp f (omega (arith, h.block.1.0)) r) (λ x ex q1.
      test_err (In f) (is_key m p (above lo (rows x.0))) (Order p) _ f q1
      (λ t w. is_in (Order p) f (omega (arith, h.block.1.0)) w) (λ q2.
      both_err (In f) (look p x.1) _ f q2 (λ r. looks p x.1 f h.block r) (λ s' es q3.
      both_err (In f) (walk_tree m n look levels (p + 2) (m p + 1) s') _ f q3
      (λ r. tree_in look looks levels (p + 2) (m p + 1) s' f (omega (arith, h.block.1.0)) r) (λ y ey q4.
      test_err (In f) (is_coloured (m (p + 3)) x.0 y.0) (Colour (p + 3)) _ f q4
      (λ t w. is_in (Colour (p + 3)) f (omega (arith, h.block.1.0)) w) (λ q5. none_met _ _ f q5))))))

  red_block : (p : ℕ) (t : Tree) → Hangs m n p t → not (is_red t) ≡ false → IsBlock n p
  red_block p leaf h e = absurd (let q : true ≡ false = e in cc)
  red_block p (node c l r t) h e = subst (λ (z : ℕ). IsBlock n z) (sym h.0.at) h.0.block

  table_in : (look : Look) (own : Own) (Good : ℕ → Rows → Type 0) →
      ((p : ℕ) (s s' : Seen) → look p s ≡ Ok s' → Looked n own Good p s s') → LooksIn look
      → (levels root : ℕ) (s : Seen) (f : Flaw) → root < n → walk_table m n look levels root s ≡ Err f → In f
  table_in look own Good looked looks levels root s f l e =
      both_err (In f) (walk_tree m n look levels root 1 s) _ f e (λ r. tree_in look looks levels root 1 s f l r)
      (λ x ex q.
      test_err (In f) (not (is_red x.0)) (Colour (m root + 3)) _ f q
      (λ t w. (let b = red_block (m root) x.0 (tree_walked m n look own Good looked levels root 1 s x ex).hangs t in
      is_in (Colour (m root + 3)) f (omega (arith, b.1.0)) w))
      (λ q1. none_met _ _ f q1))

  items_in : (levels k : ℕ) (f : Flaw) → 16 ≤ n → k ≤ 3 → walk_items m n levels k nothing ≡ Err f → In f
  items_in levels zero f l few e = none_met _ _ f e
  items_in levels (suc k) f l few e =
      both_err (In f) (walk_items m n levels k nothing) _ f e (λ r. items_in levels k f l (omega (arith, few)) r)
      (λ x ex q.
      both_err (In f) (walk_table m n (look_at_item m) levels (1 + k) x.1) _ f q
      (λ r. table_in (look_at_item m) bare (GoodItem m) (item_looked m n) item_in levels (1 + k) x.1 f
      (omega (arith, l, few)) r) (λ y ey q1. none_met _ _ f q1))

  lists_in : (levels k : ℕ) (seen : List ℕ) (f : Flaw) → 16 ≤ n → k ≤ 8 → walk_lists m n levels k seen ≡ Err f → In f
  lists_in levels zero seen f l few e = none_met _ _ f e
  lists_in levels (suc k) seen f l few e =
      both_err (In f) (walk_lists m n levels k seen) _ f e (λ r. lists_in levels k seen f l (omega (arith, few)) r)
      (λ x ex q.
      both_err (In f) (walk_free m n levels (8 + k) x.1) _ f q
      (λ r. free_in levels (8 + k) x.1 f (omega (arith, l, few)) r) (λ y ey q1. none_met _ _ f q1))

  used_in : (customers : Rows) (lists : ℕ → Rows) (kind : ℕ) (rs : Rows) (f : Flaw) →
      ((x : ℕ) → 0 < times x rs → IsBlock n x) → check_used m customers lists kind rs ≡ Err f → In f
  used_in customers lists kind [] f h e = none_met _ _ f e
  used_in customers lists kind (r ∷ rs) f h e =
      test_err (In f) (nat_eq (m (r.1 + 4)) (over (units_in m (kind * 2 ^ 32 + r.0)) customers lists))
      (Bookings (r.1 + 4)) _ f e
      (λ t w. (let b = h r.1 (times_first r.0 r.1 rs) in is_in (Bookings (r.1 + 4)) f (omega (arith, b.1.0)) w))
      (λ q. used_in customers lists kind rs f (λ x o. h x (omega (arith, o, times_more r x rs))) q)

  all_used_in : (tables lists : ℕ → Rows) (k : ℕ) (f : Flaw) →
      ((i : ℕ) → i < k → (x : ℕ) → 0 < times x (tables i) → IsBlock n x) → check_all_used m tables lists k ≡ Err f →
      In f
  all_used_in tables lists zero f h e = none_met _ _ f e
  all_used_in tables lists (suc k) f h e =
      both_err (In f) (check_all_used m tables lists k) _ f e
      (λ r. all_used_in tables lists k f (λ i l. h i (omega (arith, l))) r)
      (λ u q r. used_in (tables 3) lists k (tables k) f (h k (omega arith)) r)

reached_in : (n k : ℕ) (seen : List ℕ) (f : Flaw) → 16 + 8 * k ≤ n → check_reached k seen ≡ Err f → word_of f < n
reached_in n zero seen f l e = none_met _ _ f e
reached_in n (suc k) seen f l e =
    both_err (word_of f < n) (check_reached k seen) _ f e (λ r. reached_in n k seen f (omega (arith, l)) r)
    (λ u q r. (let w = wants_err _ (Lost (16 + 8 * k)) f r in
    subst (λ (g : Flaw). word_of g < n) w.1 (omega (arith, l))))

walk_in : (m : ℕ → ℕ) (blocks : ℕ) (f : Flaw) → walk m blocks ≡ Err f → word_of f < 16 + 8 * blocks
walk_in m blocks f e =
    let n = 16 + 8 * blocks in
    both_err (word_of f < n) (walk_items m n (suc blocks) 3 nothing) _ f e
    (λ r. items_in m n (suc blocks) 3 f (omega arith) (omega arith) r) (λ items ei e1.
    let look : Look = look_at_customer m n items.0 (suc blocks) in
    let wi = items_walked m n (suc blocks) 3 items ei in
    both_err (word_of f < n) (walk_table m n look (suc blocks) 4 items.1) _ f e1
    (λ r. table_in m n look all_lists (GoodList m n items.0) (customer_looked m n items.0 (suc blocks))
    (customer_in m n items.0 (suc blocks)) (suc blocks) 4 items.1 f (omega arith) r) (λ customers ec e2.
    both_err (word_of f < n) (check_all_used m (with_at items.0 3 customers.0) customers.1.lists 3) _ f e2
    (λ r. all_used_in m n (with_at items.0 3 customers.0) customers.1.lists 3 f (λ i l x o.
    let same : with_at items.0 3 customers.0 i ≡ items.0 i = with_else items.0 3 i customers.0 (omega (arith, l)) in
    table_block m n (m (1 + i)) x (items.0 i) (wi.table i l) (subst (λ (z : Rows). 0 < times x z) same o)) r)
    (λ u eu e3.
    both_err (word_of f < n) (walk_lists m n (suc blocks) 8 customers.1.blocks) _ f e3
    (λ r. lists_in m n (suc blocks) 8 customers.1.blocks f (omega arith) (omega arith) r) (λ free ef e4.
    both_err (word_of f < n) (check_reached blocks free.1) _ f e4 (λ r. reached_in n blocks free.1 f (omega arith) r)
    (λ v ev e5. none_met _ _ f e5)))))

pub flaw_inside : FlawInside
flaw_inside m blocks f e = both_err (word_of f < 16 + 8 * blocks) (walk m blocks) _ f e (walk_in m blocks f)
    (λ p q r. none_met _ _ f r)
