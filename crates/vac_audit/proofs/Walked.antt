-- Walks that meet no flaw, in all their parts.
use Rattle.std.proofs.Common.{◌≡◌, inl, inr, ℕ, ◌+◌, ◌*◌, ◌^◌, ◌<◌, Bool, true, false, cond, List, [], ◌∷◌, zero, suc}
use Rattle.std.proofs.Common.{length, refl, sym, ap, subst, arith, nat_eq}
use Rattle.std.specs.Prelude.{Ok, not}
use Rattle.std.proofs.lemmas.Bool.Decides.{nat_tests}
use Rattle.std.proofs.lemmas.Bool.{cases_lt}
use Rattle.tx_alloc.specs.Pool.{IsBlock, Free, held, sum_below, with_at}
use Rattle.tx_alloc.proofs.Sums.{with_here, with_else, sum_same, sum_one, sum_none}
use Rattle.tx_alloc.specs.Rows.{Rows, times}
use Rattle.vac_bookings.specs.Bookings.{Linked}
use Rattle.vac_records.specs.Heap.{Parts, over}
use Rattle.vac_audit.specs.Tree.{rows, is_red}
use Rattle.vac_audit.specs.Walk.{Seen, Look, look_at_item, look_at_customer, walk_tree, walk_table, walk_items}
use Rattle.vac_audit.specs.Walk.{walk_free, walk_lists, check_used, check_all_used, check_reached, units_in}
use Rattle.vac_audit.proofs.Sound.{Each, IsItemAt, IsBookingRow, IsSound, IsTreeTable, SoundLaw}
use Rattle.vac_audit.specs.declared.Flaw.TheVariants.{Colour, Bookings, Lost}
use Rattle.vac_audit.proofs.Steps.{both_ok, test_ok, wants_ok}
use Rattle.vac_audit.proofs.Reaching.{Reaches, none_reached, free_walked, kind_word}
use Rattle.vac_audit.proofs.Over.{each_as, both_reached, reached_as}
use Rattle.vac_audit.proofs.Trees.{Own, Looked, tree_walked, count_of, size_of}
use Rattle.vac_audit.proofs.Looking.{bare, all_lists, GoodItem, GoodList, item_looked, customer_looked}

pub record TableWalked (m : ℕ → ℕ) (n : ℕ) (own : Own) (Good : ℕ → Rows → Type 0) (root : ℕ) (s s' : Seen) (rs : Rows) :
    Type 0 where
  pub table : IsTreeTable m n (m root) rs
  pub keys : Each (λ r. r.0 < 2 ^ 32) rs
  pub good : Each (λ r. Good r.1 (own s'.lists r.1)) rs
  pub reaches : Reaches n s.blocks s'.blocks (count_of rs (own s'.lists)) (size_of rs (own s'.lists))

not_true : (b : Bool) → not b ≡ true → b ≡ false
not_true true e = absurd (let q : false ≡ true = e in cc)
not_true false e = refl

pub table_walked : (m : ℕ → ℕ) (n : ℕ) (look : Look) (own : Own) (Good : ℕ → Rows → Type 0) →
    ((p : ℕ) (s s' : Seen) → look p s ≡ Ok s' → Looked n own Good p s s')
    → (levels root : ℕ) (s : Seen) (x : Rows × Seen) → walk_table m n look levels root s ≡ Ok x →
    TableWalked m n own Good root s x.1 x.0
table_walked m n look own Good looks levels root s x e = both_ok _ (walk_tree m n look levels root 1 s) _ x e (λ y f g.
    test_ok _ (not (is_red y.0)) (Colour (m root + 3)) _ x g (λ t q.
    let r : (rows y.0, y.1) ≡ x = cc in
    let w = tree_walked m n look own Good looks levels root 1 s y f in
    subst (λ (z : Rows × Seen). TableWalked m n own Good root s z.1 z.0) r (record {
      table = record {
        tree = y.0;
        is = refl;
        hangs = w.hangs;
        rises = w.rises;
        even = w.even;
        apart = w.apart;
        black = not_true _ t;
      };
      keys = w.keys;
      good = w.good;
      reaches = w.reaches;
    })))

pub over_bare : (f : Rows → ℕ) (rs : Rows) → f [] ≡ 0 → over f rs (λ q. []) ≡ 0
over_bare f [] e = refl
over_bare f (r ∷ rs) e = omega (arith, e, over_bare f rs e)

-- a fact of each index of a family, after one is changed
pub at_each : {A : Type 0} (k i : ℕ) (P : ℕ → A → Type 0) (f : ℕ → A) (a : A) → i < suc k → (i < k → P i (f i)) →
    P k a → P i (with_at f k a i)
at_each k i P f a l old new =
    elim (cases_lt i k) [
      | inl below ↦ subst (P i) (sym (with_else f k i a (omega arith))) (old below)
      | inr here ↦ (
          let e : i ≡ k = omega arith in
          subst (P i) (sym (with_here f k i a e)) (subst (λ j. P j a) (sym e) new))
    ]

-- the first tables of items
pub record ItemsWalked (m : ℕ → ℕ) (n k : ℕ) (s' : Seen) (tables : ℕ → Rows) : Type 0 where
  pub table : (i : ℕ) → i < k → IsTreeTable m n (m (1 + i)) (tables i)
  pub keys : (i : ℕ) → i < k → Each (λ r. r.0 < 2 ^ 32) (tables i)
  pub good : (i : ℕ) → i < k → Each (λ r. IsItemAt m r.1) (tables i)
  pub reaches : Reaches n [] s'.blocks (λ x. sum_below k (λ i. times x (tables i)))
      (sum_below k (λ i. length (tables i)))

abbrev pub nothing : Seen
nothing = record { blocks = []; lists = λ _. [] }

pub items_walked : (m : ℕ → ℕ) (n levels k : ℕ) (x : (ℕ → Rows) × Seen) → walk_items m n levels k nothing ≡ Ok x →
    ItemsWalked m n k x.1 x.0
items_walked m n levels zero x e =
    let r : ◌≡◌ {A = (ℕ → Rows) × Seen} ((λ i. []), nothing) x = cc in
    subst (λ (z : (ℕ → Rows) × Seen). ItemsWalked m n 0 z.1 z.0) r (record {
      table = λ i l. absurd (omega arith);
      keys = λ i l. absurd (omega arith);
      good = λ i l. absurd (omega arith);
      reaches = none_reached n [];
    })
items_walked m n levels (suc k) x e = both_ok _ (walk_items m n levels k nothing) _ x e (λ y f g.
    both_ok _ (walk_table m n (look_at_item m) levels (1 + k) y.1) _ x g (λ z f' g'.
    let r : (with_at y.0 k z.0, z.1) ≡ x = cc in
    let w = items_walked m n levels k y f in
    let t = table_walked m n (look_at_item m) bare (GoodItem m) (item_looked m n) levels (1 + k) y.1 z f' in
    let here : with_at y.0 k z.0 k ≡ z.0 = with_here y.0 k k z.0 refl in
    let else : (i : ℕ) → i < k → with_at y.0 k z.0 i ≡ y.0 i = λ i l. with_else y.0 k i z.0 (omega arith) in
    subst (λ (z' : (ℕ → Rows) × Seen). ItemsWalked m n (suc k) z'.1 z'.0) r (record {
      table = λ i l. at_each k i (λ j rs. IsTreeTable m n (m (1 + j)) rs) y.0 z.0 l (w.table i) t.table;
      keys = λ i l. at_each k i (λ j rs. Each (λ r. r.0 < 2 ^ 32) rs) y.0 z.0 l (w.keys i) t.keys;
      good = λ i l. at_each k i (λ j rs. Each (λ r. IsItemAt m r.1) rs) y.0 z.0 l (w.good i) t.good;
      reaches = reached_as n [] z.1.blocks _ _ _ _
          (λ x. omega (
            arith,
            ap (times x) here,
            sum_same k (λ i. times x (y.0 i)) (λ i. times x (with_at y.0 k z.0 i))
                (λ i l. ap (times x) (else i l)),
            over_bare (times x) z.0 refl,
          ))
          (omega (
            arith,
            ap (λ (rs : Rows). length rs) here,
            sum_same k (λ i. length (y.0 i)) (λ i. length (with_at y.0 k z.0 i))
                (λ i l. ap (λ (rs : Rows). length rs) (else i l)),
            over_bare (λ (rs : Rows). length rs) z.0 refl,
          ))
          (both_reached n [] y.1.blocks z.1.blocks _ _ _ _ w.reaches t.reaches);
    })))

-- the first free lists
pub record ListsWalked (m : ℕ → ℕ) (n k : ℕ) (seen seen' : List ℕ) (free : ℕ → List ℕ) : Type 0 where
  pub lists : (i : ℕ) → i < k → Free m n (m (8 + i)) (free i)
  pub reaches : Reaches n seen seen' (λ x. sum_below k (λ i. held x (free i))) (sum_below k (λ i. length (free i)))

pub lists_walked : (m : ℕ → ℕ) (n levels k : ℕ) (seen : List ℕ) (x : (ℕ → List ℕ) × List ℕ) →
    walk_lists m n levels k seen ≡ Ok x → ListsWalked m n k seen x.1 x.0
lists_walked m n levels zero seen x e =
    let r : ◌≡◌ {A = (ℕ → List ℕ) × List ℕ} ((λ i. []), seen) x = cc in
    subst (λ (z : (ℕ → List ℕ) × List ℕ). ListsWalked m n 0 seen z.1 z.0) r
    (record { lists = λ i l. absurd (omega arith); reaches = none_reached n seen })
lists_walked m n levels (suc k) seen x e = both_ok _ (walk_lists m n levels k seen) _ x e (λ y f g.
    both_ok _ (walk_free m n levels (8 + k) y.1) _ x g (λ z f' g'.
    let r : (with_at y.0 k z.0, z.1) ≡ x = cc in
    let w = lists_walked m n levels k seen y f in
    let t = free_walked m n levels (8 + k) y.1 z f' in
    let here : with_at y.0 k z.0 k ≡ z.0 = with_here y.0 k k z.0 refl in
    let else : (i : ℕ) → i < k → with_at y.0 k z.0 i ≡ y.0 i = λ i l. with_else y.0 k i z.0 (omega arith) in
    subst (λ (z' : (ℕ → List ℕ) × List ℕ). ListsWalked m n (suc k) seen z'.1 z'.0) r (record {
      lists = λ i l. at_each k i (λ j bs. Free m n (m (8 + j)) bs) y.0 z.0 l (w.lists i) t.free;
      reaches = reached_as n seen z.1 _ _ _ _
          (λ x. omega (
            arith,
            ap (held x) here,
            sum_same k (λ i. held x (y.0 i)) (λ i. held x (with_at y.0 k z.0 i))
                (λ i l. ap (held x) (else i l)),
          ))
          (omega (
            arith,
            ap (λ (bs : List ℕ). length bs) here,
            sum_same k (λ i. length (y.0 i)) (λ i. length (with_at y.0 k z.0 i))
                (λ i l. ap (λ (bs : List ℕ). length bs) (else i l)),
          ))
          (both_reached n seen y.1 z.1 _ _ _ _ w.reaches t.reaches);
    })))

pub used_ok : (m : ℕ → ℕ) (customers : Rows) (lists : ℕ → Rows) (kind : ℕ) (rs : Rows) (u : Unit {0}) →
    check_used m customers lists kind rs ≡ Ok u
    → Each (λ r. m (r.1 + 4) ≡ over (units_in m (kind * 2 ^ 32 + r.0)) customers lists) rs
used_ok m customers lists kind [] u e = tt
used_ok m customers lists kind (r ∷ rs) u e =
    test_ok _ (nat_eq (m (r.1 + 4)) (over (units_in m (kind * 2 ^ 32 + r.0)) customers lists))
    (Bookings (r.1 + 4)) _ u e (λ t q.
    (eq_of _ _ t, used_ok m customers lists kind rs u q))
  where
    eq_of : (a b : ℕ) → nat_eq a b ≡ true → a ≡ b
    eq_of a b e = grind (arith, nat_tests)

pub all_used_ok : (m : ℕ → ℕ) (tables lists : ℕ → Rows) (k : ℕ) (u : Unit {0}) → check_all_used m tables lists k ≡ Ok u
    → (i : ℕ) → i < k → Each (λ r. m (r.1 + 4) ≡ over (units_in m (i * 2 ^ 32 + r.0)) (tables 3) lists) (tables i)
all_used_ok m tables lists zero u e i l = absurd (omega arith)
all_used_ok m tables lists (suc k) u e i l = both_ok _ (check_all_used m tables lists k) _ u e (λ v f g.
    elim (cases_lt i k) [
      | inl below ↦ all_used_ok m tables lists k v f i below
      | inr here ↦ (
          let q : k ≡ i = omega arith in
          subst (λ (j : ℕ). Each (λ r. m (r.1 + 4) ≡ over (units_in m (j * 2 ^ 32 + r.0)) (tables 3) lists) (tables j))
          q (used_ok m (tables 3) lists k (tables k) u g))
    ])

pub reached_ok : (k : ℕ) (seen : List ℕ) (u : Unit {0}) → check_reached k seen ≡ Ok u → (b : ℕ) → b < k →
    0 < held (16 + 8 * b) seen
reached_ok zero seen u e b l = absurd (omega arith)
reached_ok (suc k) seen u e b l = both_ok _ (check_reached k seen) _ u e (λ v f g.
    elim (cases_lt b k) [
      | inl below ↦ reached_ok k seen v f b below
      | inr here ↦ (
          let q : k ≡ b = omega arith in
          let t = wants_ok (not (nat_eq (held (16 + 8 * k) seen) 0)) (Lost (16 + 8 * k)) u g in
          subst (λ (j : ℕ). 0 < held (16 + 8 * j) seen) q (some_of _ t))
    ])
  where
    some_of : (a : ℕ) → not (nat_eq a 0) ≡ true → 0 < a
    some_of a e = grind (arith, nat_tests)

-- counting block by block, or along the list
sum_plus : (k : ℕ) (f g : ℕ → ℕ) → sum_below k (λ i. f i + g i) ≡ sum_below k f + sum_below k g
sum_plus zero f g = refl
sum_plus (suc k) f g = omega (arith, sum_plus k f g)

pub sum_ones : (k : ℕ) (f : ℕ → ℕ) → ((i : ℕ) → i < k → f i ≡ 1) → sum_below k f ≡ k
sum_ones zero f e = refl
sum_ones (suc k) f e = omega (arith, e k (omega arith), sum_ones k f (λ i l. e i (omega arith)))

pub count_blocks : (blocks : ℕ) (seen : List ℕ) → ((x : ℕ) → 0 < held x seen → IsBlock (16 + 8 * blocks) x) →
    sum_below blocks (λ b. held (16 + 8 * b) seen) ≡ length seen
count_blocks blocks [] h = sum_none blocks (λ b. 0) (λ i l. refl)
count_blocks blocks (a ∷ seen) h =
    let first : 0 < held a (a ∷ seen) = grind (arith, nat_tests) in
    let b = h a first in
    let one = sum_one blocks b.0 (λ j. cond (nat_eq a (16 + 8 * j)) 1 0) (omega (arith, b.1.0, b.1.1))
    (test_one a (16 + 8 * b.0) b.1.1) (λ j l ne. test_none a (16 + 8 * j) (λ e. ne (omega (arith, e, b.1.1)))) in
    omega (
      arith,
      sum_plus blocks (λ j. cond (nat_eq a (16 + 8 * j)) 1 0) (λ j. held (16 + 8 * j) seen),
      one,
      count_blocks blocks seen (λ x l. h x (omega (arith, l))),
    )
  where
    test_one : (a b : ℕ) → a ≡ b → cond {A = ℕ} (nat_eq a b) 1 0 ≡ 1
    test_one a b e = grind (arith, nat_tests)

    test_none : (a b : ℕ) → (a ≡ b → ⊥) → cond {A = ℕ} (nat_eq a b) 1 0 ≡ 0
    test_none a b ne = grind (arith, nat_tests)

-- a booking's item among other tables of the same items
pub rows_over : (m : ℕ → ℕ) (n p lo : ℕ) (tables tables' : ℕ → Rows) (rs : Rows) →
    ((i : ℕ) → i < 3 → tables' i ≡ tables i) → Linked m n p lo rs → Each (IsBookingRow m tables) rs →
    Each (IsBookingRow m tables') rs
rows_over m n p lo tables tables' [] e h g = tt
rows_over m n p lo tables tables' (r ∷ rs) e h g = (
  record {
    id = g.0.id;
    some = g.0.some;
    few = g.0.few;
    sum = g.0.sum;
    item = rw (e (m r.1) (omega (arith, h.0.kind, kind_word m r.1))) g.0.item;
  },
  rows_over m n (m (r.1 + 3)) (r.0 + 1) tables tables' rs e h.1 g.1,
)

pub sound_law : SoundLaw
sound_law m blocks p e = both_ok _ (walk_items m (16 + 8 * blocks) (suc blocks) 3 nothing) _ p e (λ items ei e1.
    both_ok _ (walk_table m (16 + 8 * blocks) (look_at_customer m (16 + 8 * blocks) items.0 (suc blocks))
    (suc blocks) 4 items.1) _ p e1 (λ customers ec e2.
    both_ok _ (check_all_used m (with_at items.0 3 customers.0) customers.1.lists 3) _ p e2 (λ u eu e3.
    both_ok _ (walk_lists m (16 + 8 * blocks) (suc blocks) 8 customers.1.blocks) _ p e3 (λ free ef e4.
    both_ok _ (check_reached blocks free.1) _ p e4 (λ v ev e5.
    let r : record { tables = with_at items.0 3 customers.0; lists = customers.1.lists; free = free.0; out = [] } ≡ p =
    cc in
    subst (λ (z : Parts). IsSound m (16 + 8 * blocks) z) r (assemble m blocks items customers free
    (items_walked m (16 + 8 * blocks) (suc blocks) 3 items ei)
    (table_walked m (16 + 8 * blocks) (look_at_customer m (16 + 8 * blocks) items.0 (suc blocks)) all_lists
    (GoodList m (16 + 8 * blocks) items.0) (customer_looked m (16 + 8 * blocks) items.0 (suc blocks))
    (suc blocks) 4 items.1 customers ec)
    (all_used_ok m (with_at items.0 3 customers.0) customers.1.lists 3 u eu)
    (lists_walked m (16 + 8 * blocks) (suc blocks) 8 customers.1.blocks free ef)
    (reached_ok blocks free.1 v ev)))))))
  where
    assemble : (m : ℕ → ℕ) (blocks : ℕ) (items : (ℕ → Rows) × Seen) (customers : Rows × Seen)
        (free : (ℕ → List ℕ) × List ℕ)
        → ItemsWalked m (16 + 8 * blocks) 3 items.1 items.0
        → TableWalked m (16 + 8 * blocks) all_lists (GoodList m (16 + 8 * blocks) items.0) 4 items.1 customers.1
        customers.0
        → ((i : ℕ) → i < 3 → Each (λ r. m (r.1 + 4) ≡ over (units_in m (i * 2 ^ 32 + r.0))
        (with_at items.0 3 customers.0 3) customers.1.lists) (with_at items.0 3 customers.0 i))
        → ListsWalked m (16 + 8 * blocks) 8 customers.1.blocks free.1 free.0
        → ((b : ℕ) → b < blocks → 0 < held (16 + 8 * b) free.1)
        → IsSound m (16 + 8 * blocks) (record {
          tables = with_at items.0 3 customers.0;
          lists = customers.1.lists;
          free = free.0;
          out = [];
        })
    assemble m blocks items customers free wi wc wu wf wr =
        let whole = both_reached (16 + 8 * blocks) [] items.1.blocks free.1 _ _ _ _ wi.reaches
        (both_reached (16 + 8 * blocks) items.1.blocks customers.1.blocks free.1 _ _ _ _ wc.reaches wf.reaches) in
        let one : (x : ℕ) → IsBlock (16 + 8 * blocks) x → held x free.1 ≡ 1 = λ x bx.
        let there : 0 < held x free.1 = subst (λ (z : ℕ). 0 < held z free.1) (sym bx.1.1)
        (wr bx.0 (omega (arith, bx.1.0, bx.1.1))) in
        whole.once x (omega (arith, there, whole.counts x)) in
        record {
          tables = λ i l. at_each 3 i (λ j rs. IsTreeTable m (16 + 8 * blocks) (m (1 + j)) rs) items.0 customers.0 l
              (wi.table i) wc.table;
          keys = λ i l. at_each 3 i (λ j rs. Each (λ r. r.0 < 2 ^ 32) rs) items.0 customers.0 l (wi.keys i) wc.keys;
          items = λ i l. at_each 3 i (λ j rs. j < 3 → Each (λ r. IsItemAt m r.1) rs) items.0 customers.0 (omega arith)
              (λ l' o. wi.good i l') (λ o. absurd (omega arith)) l;
          lists = each_as (λ r. GoodList m (16 + 8 * blocks) items.0 r.1 (customers.1.lists r.1)) _ customers.0
              (λ r o g. (
                g.0,
                rows_over m (16 + 8 * blocks) (m (r.1 + 4)) 0 items.0 (with_at items.0 3 customers.0)
                    (customers.1.lists r.1) (λ i l. with_else items.0 3 i customers.0 (omega arith)) g.0.linked g.1,
              ))
              wc.good;
          used = wu;
          pool = record {
            lists = wf.lists;
            once = λ x bx. omega (arith, one x bx, whole.counts x);
            all = omega (
              arith,
              whole.more,
              count_blocks blocks free.1 (λ x l. whole.blocks x (omega (arith, l, whole.counts x))),
              sum_ones blocks (λ b. held (16 + 8 * b) free.1) (λ b l. one (16 + 8 * b) (b, (omega arith, refl))),
            );
          };
          none_out = refl;
        }
