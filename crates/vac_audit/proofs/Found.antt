-- In a sound heap, the whole walk meets no flaw.
use Rattle.std.proofs.Common.{◌≡◌, inl, inr, ℕ, ◌+◌, ◌*◌, ◌^◌, ◌<◌, ◌≤◌, Bool, true, false, List, [], ◌∷◌, zero, suc}
use Rattle.std.proofs.Common.{length, refl, sym, ap, ◌∙◌, subst, arith, nat_eq}
use Rattle.std.specs.Prelude.{Ok, not, sum_by}
use Rattle.std.proofs.lemmas.Bool.Decides.{nat_tests}
use Rattle.std.proofs.lemmas.Bool.{cases_lt}
use Rattle.tx_alloc.specs.Pool.{IsBlock, held, sum_below, with_at}
use Rattle.tx_alloc.proofs.Sums.{with_else, sum_has}
use Rattle.tx_alloc.proofs.Chains.{free_block}
use Rattle.tx_alloc.specs.Rows.{Rows, times}
use Rattle.vac_bookings.specs.Bookings.{IsList}
use Rattle.tx_alloc.specs.Rows.{IsFrom}
use Rattle.vac_records.specs.Heap.{Parts, over}
use Rattle.vac_bookings.proofs.Frame.{list_block}
use Rattle.vac_records.proofs.Overs.{over_has}
use Rattle.vac_model.specs.declared.replies.Report.{Report}
use Rattle.vac_audit.specs.Tree.{Tree, leaf, node, rows, is_red, Hangs}
use Rattle.vac_audit.specs.Walk.{Seen, Look, look_at_item, look_at_customer, walk_tree, walk_table, walk_items}
use Rattle.vac_audit.specs.Walk.{walk_free, walk_lists, check_used, check_all_used, check_reached, units_in, walk}
use Rattle.vac_audit.specs.Walk.{audit, report_of}
use Rattle.vac_audit.proofs.Sound.{Each, IsSound, IsTreeTable, CleanLaw}
use Rattle.vac_audit.specs.declared.Flaw.TheVariants.{Colour, Bookings, Lost}
use Rattle.vac_audit.proofs.Steps.{then_with, test_with, wants_with}
use Rattle.vac_audit.proofs.Reaching.{Reaches, none_reached, free_found}
use Rattle.vac_audit.proofs.Over.{each_as, over_as, times_append, both_reached, reached_as}
use Rattle.vac_audit.proofs.Trees.{Own, Apart, LookFound, TreeFound, tree_found, count_of, size_of}
use Rattle.vac_audit.proofs.Looking.{bare, all_lists, GoodItem, GoodCustomer, item_found, customer_found}
use Rattle.vac_audit.proofs.Walked.{nothing, over_bare, rows_over, at_each}

hangs_block : (m : ℕ → ℕ) (n p x : ℕ) (t : Tree) → Hangs m n p t → 0 < times x (rows t) → IsBlock n x
hangs_block m n p x leaf h o = absurd (omega arith)
hangs_block m n p x (node c l (k, b) t) h o =
    elim (cases_lt 0 (times x (rows l))) [
      | inl some ↦ hangs_block m n (m (b + 1)) x l h.1.0 some
      | inr none ↦ elim (cases_lt 0 (times x (rows t))) [
        | inl some ↦ hangs_block m n (m (b + 2)) x t h.1.1 some
        | inr none' ↦ (let e : b ≡ x = grind (arith, nat_tests, times_append x (rows l) ((k, b) ∷ rows t)) in
            subst (λ (z : ℕ). IsBlock n z) e h.0.block)
      ]
    ]

pub table_block : (m : ℕ → ℕ) (n p x : ℕ) (rs : Rows) → IsTreeTable m n p rs → 0 < times x rs → IsBlock n x
table_block m n p x rs h o = hangs_block m n p x h.tree h.hangs (subst (λ (z : Rows). 0 < times x z) (sym h.is) o)

lists_block : (m : ℕ → ℕ) (n x : ℕ) (lists : ℕ → Rows) (rs : Rows) →
    Each (λ r. IsList m n (m (r.1 + 4)) (lists r.1)) rs → 0 < over (times x) rs lists → IsBlock n x
lists_block m n x lists [] h o = absurd (omega arith)
lists_block m n x lists (r ∷ rs) h o =
    elim (cases_lt 0 (times x (lists r.1))) [
      | inl some ↦ list_block m n (m (r.1 + 4)) x (lists r.1) h.0 some
      | inr none ↦ lists_block m n x lists rs h.1 (omega (arith, o, none))
    ]

pub record TableFound (m : ℕ → ℕ) (n : ℕ) (look : Look) (own : Own) (L : ℕ →
    Rows) (levels root : ℕ) (s : Seen) (rs : Rows) : Type 0 where
  pub s' : Seen
  pub is : walk_table m n look levels root s ≡ Ok (rs, s')
  pub reaches : Reaches n s.blocks s'.blocks (count_of rs L) (size_of rs L)
  pub lists : (q : ℕ) → 0 < times q rs → own s'.lists q ≡ L q

of_tree : (m : ℕ → ℕ) (n : ℕ) (look : Look) (own : Own) (L : ℕ → Rows) (levels root : ℕ) (s : Seen) (t : Tree) →
    is_red t ≡ false → TreeFound m n look own L levels root 1 s t → TableFound m n look own L levels root s (rows t)
of_tree m n look own L levels root s t black w = record {
  s' = w.s';
  is = then_with (walk_tree m n look levels root 1 s) _ (t, w.s') _ w.is
      (test_with (not (is_red t)) (Colour (m root + 3)) _ _ (ap (λ (b : Bool). not b) black) refl);
  reaches = w.reaches;
  lists = w.lists;
}

pub table_found : (m : ℕ → ℕ) (n : ℕ) (look : Look) (own : Own) (Good : ℕ → Rows → Type 0) (L : ℕ → Rows)
    → ((p : ℕ) (s : Seen) → Good p (L p) → Apart (λ x. times x (L p)) s.blocks → LookFound n look own L p s)
    → (levels root : ℕ) (s : Seen) (rs : Rows) → IsTreeTable m n (m root) rs → Each (λ r. r.0 < 2 ^ 32) rs →
    Each (λ r. Good r.1 (L r.1)) rs → length rs < levels → Apart (count_of rs L) s.blocks
    → TableFound m n look own L levels root s rs
table_found m n look own Good L looks levels root s rs h keys good less d =
    let e = sym h.is in
    let less' : length (rows h.tree) < levels = omega (arith, less, ap (λ (z : Rows). length z) h.is) in
    let w = tree_found m n look own Good L looks levels root 1 s h.tree (record {
      hangs = h.hangs;
      rises = subst (λ (z : Rows). IsFrom 1 z) e h.rises;
      keys = subst (λ (z : Rows). Each (λ r. r.0 < 2 ^ 32) z) e keys;
      even = h.even;
      apart = h.apart;
      good = subst (λ (z : Rows). Each (λ r. Good r.1 (L r.1)) z) e good;
    }) less' (subst (λ (z : Rows). Apart (count_of z L) s.blocks) e d) in
    subst (λ (z : Rows). TableFound m n look own L levels root s z) h.is
    (of_tree m n look own L levels root s h.tree h.black w)

pub sum_prefix : (k j : ℕ) (f : ℕ → ℕ) → k ≤ j → sum_below k f ≤ sum_below j f
sum_prefix k zero f l = let e : k ≡ 0 = omega arith in omega (arith, ap (λ (z : ℕ). sum_below z f) e)
sum_prefix k (suc j) f l =
    elim (cases_lt k (suc j)) [
      | inl below ↦ omega (arith, sum_prefix k j f (omega arith))
      | inr here ↦ (let e : k ≡ suc j = omega arith in omega (arith, ap (λ (z : ℕ). sum_below z f) e))
    ]

used_found : (m : ℕ → ℕ) (customers : Rows) (lists : ℕ → Rows) (kind : ℕ) (rs : Rows) →
    Each (λ r. m (r.1 + 4) ≡ over (units_in m (kind * 2 ^ 32 + r.0)) customers lists) rs
    → check_used m customers lists kind rs ≡ Ok tt
used_found m customers lists kind [] h = refl
used_found m customers lists kind (r ∷ rs) h =
    test_with (nat_eq (m (r.1 + 4)) (over (units_in m (kind * 2 ^ 32 + r.0)) customers lists)) (Bookings (r.1 + 4)) _ _
    (test_of _ _ h.0) (used_found m customers lists kind rs h.1)
  where
    test_of : (a b : ℕ) → a ≡ b → nat_eq a b ≡ true
    test_of a b e = grind (arith, nat_tests)

all_used_found : (m : ℕ → ℕ) (tables lists : ℕ → Rows) (k : ℕ) →
    ((i : ℕ) → i < k → Each (λ r. m (r.1 + 4) ≡ over (units_in m (i * 2 ^ 32 + r.0)) (tables 3) lists) (tables i)) →
    check_all_used m tables lists k ≡ Ok tt
all_used_found m tables lists zero h = refl
all_used_found m tables lists (suc k) h =
    then_with (check_all_used m tables lists k) _ tt _ (all_used_found m tables lists k (λ i l. h i (omega arith)))
    (used_found m (tables 3) lists k (tables k) (h k (omega arith)))

reached_found : (k : ℕ) (seen : List ℕ) → ((b : ℕ) → b < k → 0 < held (16 + 8 * b) seen) → check_reached k seen ≡ Ok tt
reached_found zero seen h = refl
reached_found (suc k) seen h =
    then_with (check_reached k seen) _ tt _ (reached_found k seen (λ b l. h b (omega arith)))
    (wants_with (not (nat_eq (held (16 + 8 * k) seen) 0)) (Lost (16 + 8 * k)) (test_of _ (h k (omega arith))))
  where
    test_of : (a : ℕ) → 0 < a → not (nat_eq a 0) ≡ true
    test_of a l = grind (arith, nat_tests)

-- the first tables of items, found
pub record ItemsFound (m : ℕ → ℕ) (n levels k : ℕ) (p : Parts) : Type 0 where
  pub tables : ℕ → Rows
  pub s' : Seen
  pub is : walk_items m n levels k nothing ≡ Ok (tables, s')
  pub same : (i : ℕ) → i < k → tables i ≡ p.tables i
  pub reaches : Reaches n [] s'.blocks (λ x. sum_below k (λ i. times x (p.tables i)))
      (sum_below k (λ i. length (p.tables i)))

pub record FreeListsFound (m : ℕ → ℕ) (n levels k : ℕ) (seen : List ℕ) (p : Parts) : Type 0 where
  pub free : ℕ → List ℕ
  pub seen' : List ℕ
  pub is : walk_lists m n levels k seen ≡ Ok (free, seen')
  pub reaches : Reaches n seen seen' (λ x. sum_below k (λ i. held x (p.free i))) (sum_below k (λ i. length (p.free i)))

-- the next table, after those found
next_items : (m : ℕ → ℕ) (n levels k : ℕ) (p : Parts) (w : ItemsFound m n levels k p) →
    TableFound m n (look_at_item m) bare (λ q. []) levels (1 + k) w.s' (p.tables k) → ItemsFound m n levels (suc k) p
next_items m n levels k p w t = record {
  tables = with_at w.tables k (p.tables k);
  s' = t.s';
  is = then_with (walk_items m n levels k nothing) _ (w.tables, w.s') _ w.is
      (then_with (walk_table m n (look_at_item m) levels (1 + k) w.s') _ (p.tables k, t.s') _ t.is refl);
  same = λ i l. at_each k i (λ j rs. rs ≡ p.tables j) w.tables (p.tables k) l (w.same i) refl;
  reaches = reached_as n [] t.s'.blocks _ _ _ _
      (λ x. omega (arith, over_bare (times x) (p.tables k) refl))
      (omega (arith, over_bare (λ (rs : Rows). length rs) (p.tables k) refl))
      (both_reached n [] w.s'.blocks t.s'.blocks _ _ _ _ w.reaches t.reaches);
}

module _ (m : ℕ → ℕ) (blocks : ℕ) (p : Parts) (h : IsSound m (16 + 8 * blocks) p) where
  -- each block occurs once in all: in a free list, in a table, or in a list of bookings
  all_of : (x : ℕ) → IsBlock (16 + 8 * blocks) x → sum_below 8 (λ i. held x (p.free i)) +
      (sum_below 4 (λ i. times x (p.tables i)) + over (times x) (p.tables 3) p.lists) ≡ 1
  all_of x b = omega (arith, h.pool.once x b, ap (held x) h.none_out)

  all_many : sum_below 8 (λ i. length (p.free i)) + (sum_below 4 (λ i. length (p.tables i)) + over (λ rs. length rs)
      (p.tables 3) p.lists) ≤ blocks
  all_many = omega (arith, h.pool.all)

  items_found : (k : ℕ) → k ≤ 3 → ItemsFound m (16 + 8 * blocks) (suc blocks) k p
  items_found zero l = record {
    tables = λ i. [];
    s' = nothing;
    is = refl;
    same = λ i l. absurd (omega arith);
    reaches = none_reached (16 + 8 * blocks) [];
  }
  items_found (suc k) l =
      let w = items_found k (omega arith) in
      let table = h.tables k (omega arith) in
      next_items m (16 + 8 * blocks) (suc blocks) k p w
      (table_found m (16 + 8 * blocks) (look_at_item m) bare (GoodItem m) (λ q. [])
      (λ q s g d. item_found m (16 + 8 * blocks) q s g) (suc blocks) (1 + k) w.s' (p.tables k)
      table (h.keys k (omega arith)) (h.items k (omega arith))
      (omega (arith, all_many, sum_has 4 k (λ i. length (p.tables i)) (omega arith)))
      (λ x o.
      let z = over_bare (times x) (p.tables k) refl in
      let bx = table_block m (16 + 8 * blocks) (m (1 + k)) x (p.tables k) table (omega (arith, o, z)) in
      let before = sum_prefix (suc k) 4 (λ i. times x (p.tables i)) (omega arith) in
      omega (arith, all_of x bx, before, w.reaches.counts x, o, z)))

  n_lists : Each (λ r. IsList m (16 + 8 * blocks) (m (r.1 + 4)) (p.lists r.1)) (p.tables 3)
  n_lists = each_as _ _ (p.tables 3) (λ r o g. g.0) h.lists

  customers_found : (w : ItemsFound m (16 + 8 * blocks) (suc blocks) 3 p) →
      TableFound m (16 + 8 * blocks) (look_at_customer m (16 + 8 * blocks) w.tables (suc blocks)) all_lists p.lists
      (suc blocks) 4 w.s' (p.tables 3)
  customers_found w =
      let table = h.tables 3 (omega arith) in
      table_found m (16 + 8 * blocks) (look_at_customer m (16 + 8 * blocks) w.tables (suc blocks)) all_lists
      (GoodCustomer m (16 + 8 * blocks) w.tables (suc blocks)) p.lists
      (customer_found m (16 + 8 * blocks) w.tables (suc blocks) p.lists) (suc blocks) 4 w.s' (p.tables 3) table
      (h.keys 3 (omega arith))
      (each_as _ (λ r. GoodCustomer m (16 + 8 * blocks) w.tables (suc blocks) r.1 (p.lists r.1)) (p.tables 3)
      (λ r o g. (
        g.0,
        rows_over m (16 + 8 * blocks) (m (r.1 + 4)) 0 p.tables w.tables (p.lists r.1) w.same g.0.linked g.1,
        omega (arith, all_many, over_has (λ (rs : Rows). length rs) r.1 (p.tables 3) p.lists o),
      )) h.lists)
      (omega (arith, all_many, sum_has 4 3 (λ i. length (p.tables i)) (omega arith)))
      (λ x o.
      let bx : IsBlock (16 + 8 * blocks) x = elim (cases_lt 0 (times x (p.tables 3))) [
        | inl some ↦ table_block m (16 + 8 * blocks) (m 4) x (p.tables 3) table some
        | inr none ↦ lists_block m (16 + 8 * blocks) x p.lists (p.tables 3) n_lists (omega (arith, o, none))
      ] in
      omega (arith, all_of x bx, w.reaches.counts x, o))

  lists_found : (k : ℕ) (seen : List ℕ) → k ≤ 8 → ((x : ℕ) → IsBlock (16 + 8 * blocks) x →
      held x seen ≡ sum_below 4 (λ i. times x (p.tables i)) + over (times x) (p.tables 3) p.lists)
      → FreeListsFound m (16 + 8 * blocks) (suc blocks) k seen p
  lists_found zero seen l e = record {
    free = λ i. [];
    seen' = seen;
    is = refl;
    reaches = none_reached (16 + 8 * blocks) seen;
  }
  lists_found (suc k) seen l e =
      let w = lists_found k seen (omega arith) e in
      let list = h.pool.lists k (omega arith) in
      let t = free_found m (16 + 8 * blocks) (suc blocks) (8 + k) w.seen' (p.free k) list
      (omega (arith, all_many, sum_has 8 k (λ i. length (p.free i)) (omega arith)))
      (λ x o.
      let bx = free_block m (16 + 8 * blocks) (m (8 + k)) x (p.free k) list o in
      let before = sum_prefix (suc k) 8 (λ i. held x (p.free i)) (omega arith) in
      omega (arith, all_of x bx, before, w.reaches.counts x, e x bx, o)) in
      record {
        free = with_at w.free k (p.free k);
        seen' = t.seen';
        is = then_with (walk_lists m (16 + 8 * blocks) (suc blocks) k seen) _ (w.free, w.seen') _ w.is
            (then_with (walk_free m (16 + 8 * blocks) (suc blocks) (8 + k) w.seen') _ (p.free k, t.seen') _ t.is refl);
        reaches = reached_as (16 + 8 * blocks) seen t.seen' _ _ _ _ (λ x. omega arith) (omega arith)
            (both_reached (16 + 8 * blocks) seen w.seen' t.seen' _ _ _ _ w.reaches t.reaches);
      }

  -- the parts that the walk finds
  found_parts : (w : ItemsFound m (16 + 8 * blocks) (suc blocks) 3 p)
      (c : TableFound m (16 + 8 * blocks) (look_at_customer m (16 + 8 * blocks) w.tables (suc blocks)) all_lists p.lists
      (suc blocks) 4 w.s' (p.tables 3))
      (f : FreeListsFound m (16 + 8 * blocks) (suc blocks) 8 c.s'.blocks p) →
      walk m blocks ≡ Ok (record {
        tables = with_at w.tables 3 (p.tables 3);
        lists = c.s'.lists;
        free = f.free;
        out = [];
      })
  found_parts w c f =
      let same : (i : ℕ) → i < 3 → with_at w.tables 3 (p.tables 3) i ≡ p.tables i =
      λ i l. with_else w.tables 3 i (p.tables 3) (omega arith) ∙ w.same i l in
      let used = all_used_found m (with_at w.tables 3 (p.tables 3)) c.s'.lists 3
      (λ i l. subst (λ (z : Rows). Each (λ r. m (r.1 + 4) ≡ over (units_in m (i * 2 ^ 32 + r.0))
      (p.tables 3) c.s'.lists) z) (sym (same i l))
      (each_as _ _ (p.tables i) (λ r o g. g ∙ sym (over_as (units_in m (i * 2 ^ 32 + r.0))
      (p.tables 3) p.lists c.s'.lists c.lists)) (h.used i l))) in
      let reached = reached_found blocks f.seen' (λ b l.
      let bx : IsBlock (16 + 8 * blocks) (16 + 8 * b) = (b, (omega arith, refl)) in
      omega (
        arith,
        all_of (16 + 8 * b) bx,
        f.reaches.counts (16 + 8 * b),
        c.reaches.counts (16 + 8 * b),
        w.reaches.counts (16 + 8 * b),
      )) in
      then_with (walk_items m (16 + 8 * blocks) (suc blocks) 3 nothing) _ (w.tables, w.s') _ w.is
      (then_with (walk_table m (16 + 8 * blocks) (look_at_customer m (16 + 8 * blocks) w.tables (suc blocks))
      (suc blocks) 4 w.s') _ (p.tables 3, c.s') _ c.is
      (then_with (check_all_used m (with_at w.tables 3 (p.tables 3)) c.s'.lists 3) _ tt _ used
      (then_with (walk_lists m (16 + 8 * blocks) (suc blocks) 8 c.s'.blocks) _ (f.free, f.seen') _ f.is
      (then_with (check_reached blocks f.seen') _ tt _ reached refl))))

-- the report of parts with the same tables, and the same lists at the customers
report_as : (m : ℕ → ℕ) (p p' : Parts) → ((i : ℕ) → i < 4 → p'.tables i ≡ p.tables i) →
    ((f : Rows → ℕ) → over f (p.tables 3) p'.lists ≡ over f (p.tables 3) p.lists) → report_of m p' ≡ report_of m p
report_as m p p' e g =
    let e0 = e 0 (omega arith) in
    let e1 = e 1 (omega arith) in
    let e2 = e 2 (omega arith) in
    let e3 = e 3 (omega arith) in
    let g0 = g (sum_by (λ r. m (r.1 + 4))) in
    let g1 = g (sum_by (λ r. m (r.1 + 2))) in
    rw (e0, e1, e2, e3, g0, g1) refl

pub clean_law : CleanLaw
clean_law m blocks p h =
    let w = items_found m blocks p h 3 (omega arith) in
    let c = customers_found m blocks p h w in
    let f = lists_found m blocks p h 8 c.s'.blocks (omega arith)
    (λ x bx. omega (arith, c.reaches.counts x, w.reaches.counts x)) in
    of_parts w c f
  where
    of_parts : (w : ItemsFound m (16 + 8 * blocks) (suc blocks) 3 p)
        (c : TableFound m (16 + 8 * blocks) (look_at_customer m (16 + 8 * blocks) w.tables (suc blocks)) all_lists
        p.lists (suc blocks) 4 w.s' (p.tables 3))
        (f : FreeListsFound m (16 + 8 * blocks) (suc blocks) 8 c.s'.blocks p) → audit m blocks ≡ Ok (report_of m p)
    of_parts w c f = then_with (walk m blocks) _ (record {
      tables = with_at w.tables 3 (p.tables 3);
      lists = c.s'.lists;
      free = f.free;
      out = [];
    }) _ (found_parts m blocks p h w c f)
        (ap (λ (r : Report). Ok r) (report_as m p (record {
          tables = with_at w.tables 3 (p.tables 3);
          lists = c.s'.lists;
          free = f.free;
          out = [];
        })
        (λ i l. at_each 3 i (λ j rs. rs ≡ p.tables j) w.tables (p.tables 3) l (w.same i) refl)
        (λ g. over_as g (p.tables 3) p.lists c.s'.lists c.lists)))
