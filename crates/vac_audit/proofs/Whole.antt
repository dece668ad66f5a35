-- The whole audit, stage by stage.
use Rattle.std.proofs.Common.{◌≡◌, inl, inr, ℕ, ◌+◌, ◌-◌, ◌/◌, ◌%◌, ◌*◌, ◌≤◌, ◌<◌, ◌++◌, Bool, false, List, [], length}
use Rattle.std.proofs.Common.{get_or, suc, refl, sym, ap, ◌∙◌, subst, arith, nat_eq, replicate}
use Rattle.std.specs.Prelude.{Result, Ok, Err, slice_index, sum_by, not}
use Rattle.std.specs.List.{All}
use Rattle.std.proofs.lemmas.List.{get_or-replicate, length-replicate}
use Rattle.tx_alloc.specs.Pool.{with_at}
use Rattle.tx_alloc.specs.Rows.{Rows}
use Rattle.tx_alloc.specs.declared.place.TheConstants.{LISTS}
use Rattle.vac_model.specs.declared.replies.Report.{Report}
use Rattle.vac_records.specs.Heap.{Parts, over}
use Rattle.vac_audit.specs.Walk.{Seen, then, look_at_item, look_at_customer, walk_table, walk_items, walk_lists}
use Rattle.vac_audit.specs.Walk.{check_all_used, check_reached, units_in, report_of, audit}
use Rattle.vac_audit.specs.declared.audit.TheConstants.{MOST_HEAP_WORDS}
use Rattle.vac_audit.specs.Noted.{InOrder, codes_in, blocks_in, booked_in}
use Rattle.vac_audit.specs.Marks.{Marks, IsIndex, ListsRan, ReachedRan}
use Rattle.vac_audit.specs.Ran.{ItemsRan, ItemsWalked, Uncounted, CustomersRan, CustomersWalked, Inside, UsedRan}
use Rattle.vac_audit.specs.Ran.{HeapRan, IsHeapSize, Audited, audit_answer, fault_answer}
use Rattle.vac_audit.specs.declared.Flaw.{Flaw}
use Rattle.vac_audit.specs.declared.notes.NotedItem.{NotedItem}
use Rattle.vac_audit.specs.declared.notes.Notes.{Notes}
use Rattle.vac_audit.specs.declared.tree.Fault.{Fault}
use Rattle.vac_audit.specs.declared.tree.Fault.TheVariants.{Memory, Found}
use Rattle.vac_audit.specs.declared.audit.AuditFault.TheVariants.{Flaw as Flawed}
use Rattle.vac_audit.specs.declared.audit.Kinds.{Kinds}
use Rattle.vac_audit.proofs.Index.{GoodRows, codes_of, blocks_of, table_good, all_codes, all_blocks, all_none}
use Rattle.vac_audit.proofs.Index.{all_order, all_inside, all_index}
use Rattle.vac_audit.proofs.Noted.{length_codes, same_length, same_inside}
use Rattle.vac_audit.proofs.Running.{then_err}
use Rattle.vac_audit.proofs.Steps.{then_with}
use Rattle.vac_audit.proofs.Used.{used_ok, used_err}
use Rattle.vac_audit.proofs.Walks.{tables_of, first_ok, next_ok}

abbrev pub start : Seen
start = record { blocks = []; lists = λ _. [] }

-- the walk, with its numbers of words and levels
abbrev walk_with : (ℕ → ℕ) → ℕ → ℕ → ℕ → Result Parts Flaw
walk_with m n levels blocks =
    then (walk_items m n levels 3 start) (λ items.
    then (walk_table m n (look_at_customer m n items.0 levels) levels 4 items.1) (λ customers.
    then (check_all_used m (with_at items.0 3 customers.0) customers.1.lists 3) (λ _.
    then (walk_lists m n levels LISTS customers.1.blocks) (λ free.
    then (check_reached blocks free.1) (λ _.
    Ok (record { tables = with_at items.0 3 customers.0; lists = customers.1.lists; free = free.0; out = [] }))))))

abbrev audit_with : (ℕ → ℕ) → ℕ → ℕ → ℕ → Result Report Flaw
audit_with m n levels blocks = then (walk_with m n levels blocks) (λ p. Ok (report_of m p))

module _ (m : ℕ → ℕ) (n levels blocks : ℕ) where
  items_bad : (f : Flaw) → walk_items m n levels 3 start ≡ Err f → audit_with m n levels blocks ≡ Err f
  items_bad f e = then_err (walk_with m n levels blocks) _ f (then_err (walk_items m n levels 3 start) _ f e)

  module _ (items : (ℕ → Rows) × Seen) (items_are : walk_items m n levels 3 start ≡ Ok items) where
    customers_bad : (f : Flaw) → walk_table m n (look_at_customer m n items.0 levels) levels 4 items.1 ≡ Err f →
        audit_with m n levels blocks ≡ Err f
    customers_bad f e = then_err (walk_with m n levels blocks) _ f
        (then_with (walk_items m n levels 3 start) _ items _ items_are
        (then_err (walk_table m n (look_at_customer m n items.0 levels) levels 4 items.1) _ f e))

    module _ (customers : Rows × Seen) (customers_are : walk_table m n
        (look_at_customer m n items.0 levels) levels 4 items.1 ≡ Ok customers) where
      used_bad : (f : Flaw) → check_all_used m (with_at items.0 3 customers.0) customers.1.lists 3 ≡ Err f →
          audit_with m n levels blocks ≡ Err f
      used_bad f e = then_err (walk_with m n levels blocks) _ f
          (then_with (walk_items m n levels 3 start) _ items _ items_are
          (then_with (walk_table m n (look_at_customer m n items.0 levels) levels 4 items.1) _ customers _ customers_are
          (then_err (check_all_used m (with_at items.0 3 customers.0) customers.1.lists 3) _ f e)))

      module _ (used : check_all_used m (with_at items.0 3 customers.0) customers.1.lists 3 ≡ Ok tt) where
        lists_bad : (f : Flaw) → walk_lists m n levels LISTS customers.1.blocks ≡ Err f →
            audit_with m n levels blocks ≡ Err f
        lists_bad f e = then_err (walk_with m n levels blocks) _ f
            (then_with (walk_items m n levels 3 start) _ items _ items_are
            (then_with (walk_table m n (look_at_customer m n items.0 levels) levels 4 items.1) _ customers _
            customers_are
            (then_with (check_all_used m (with_at items.0 3 customers.0) customers.1.lists 3) _ tt _ used
            (then_err (walk_lists m n levels LISTS customers.1.blocks) _ f e))))

        module _ (free : (ℕ → List ℕ) × List ℕ) (free_are : walk_lists m n levels LISTS customers.1.blocks ≡ Ok free)
          where
            reached_bad : (f : Flaw) → check_reached blocks free.1 ≡ Err f → audit_with m n levels blocks ≡ Err f
            reached_bad f e = then_err (walk_with m n levels blocks) _ f
                (then_with (walk_items m n levels 3 start) _ items _ items_are
                (then_with (walk_table m n (look_at_customer m n items.0 levels) levels 4 items.1) _ customers _
                customers_are
                (then_with (check_all_used m (with_at items.0 3 customers.0) customers.1.lists 3) _ tt _ used
                (then_with (walk_lists m n levels LISTS customers.1.blocks) _ free _ free_are
                (then_err (check_reached blocks free.1) _ f e)))))

            all_good : (r : Report) → check_reached blocks free.1 ≡ Ok tt →
                r ≡ report_of m (record {
                  tables = with_at items.0 3 customers.0;
                  lists = customers.1.lists;
                  free = free.0;
                  out = [];
                }) → audit_with m n levels blocks ≡ Ok r
            all_good r e is = then_with (walk_with m n levels blocks) _ _ _
                (then_with (walk_items m n levels 3 start) _ items _ items_are
                (then_with (walk_table m n (look_at_customer m n items.0 levels) levels 4 items.1) _ customers _
                customers_are
                (then_with (check_all_used m (with_at items.0 3 customers.0) customers.1.lists 3) _ tt _ used
                (then_with (walk_lists m n levels LISTS customers.1.blocks) _ free _ free_are
                (then_with (check_reached blocks free.1) _ tt _ e refl)))))
                (ap (λ (z : Report). Ok z) (sym is))

-- no block was reached yet
pub none_marked : (marks : List Bool) (blocks : ℕ) → marks ≡ replicate blocks false → Marks marks []
none_marked marks blocks e = record {
  is = λ b l. subst (λ (z : List Bool). get_or z b false ≡ not (nat_eq 0 0)) (sym e)
      (get_or-replicate blocks b false false (omega (
        arith,
        l,
        ap (λ (z : List Bool). length z) e,
        length-replicate {A = Bool} blocks false,
      )));
}

pub starts : (marks : List Bool) (blocks : ℕ) → marks ≡ replicate blocks false →
    (length marks ≡ blocks) × Marks marks []
starts marks blocks e = (
  ap (λ (z : List Bool). length z) e ∙ length-replicate {A = Bool} blocks false,
  none_marked marks blocks e,
)

-- reports whose numbers agree
same_report : (x y : Report) → x.cars ≡ y.cars → x.flights ≡ y.flights → x.rooms ≡ y.rooms → x.customers ≡ y.customers →
    x.bookings ≡ y.bookings → x.used ≡ y.used → x.free ≡ y.free → x.total ≡ y.total → x.billed ≡ y.billed → x ≡ y
same_report x y e1 e2 e3 e4 e5 e6 e7 e8 e9 =
    ap (λ (z : ℕ). let r : Report = record {
      cars = z;
      flights = x.flights;
      rooms = x.rooms;
      customers = x.customers;
      bookings = x.bookings;
      used = x.used;
      free = x.free;
      total =
          x.total;
      billed = x.billed;
    } in r) e1
    ∙ (ap (λ (z : ℕ). let r : Report = record {
      cars = y.cars;
      flights = z;
      rooms = x.rooms;
      customers = x.customers;
      bookings = x.bookings;
      used = x.used;
      free =
          x.free;
      total = x.total;
      billed = x.billed;
    } in r) e2
    ∙ (ap (λ (z : ℕ). let r : Report = record {
      cars = y.cars;
      flights = y.flights;
      rooms = z;
      customers = x.customers;
      bookings = x.bookings;
      used = x.used;
      free =
          x.free;
      total = x.total;
      billed = x.billed;
    } in r) e3
    ∙ (ap (λ (z : ℕ). let r : Report = record {
      cars = y.cars;
      flights = y.flights;
      rooms = y.rooms;
      customers = z;
      bookings = x.bookings;
      used = x.used;
      free =
          x.free;
      total = x.total;
      billed = x.billed;
    } in r) e4
    ∙ (ap (λ (z : ℕ). let r : Report = record {
      cars = y.cars;
      flights = y.flights;
      rooms = y.rooms;
      customers = y.customers;
      bookings = z;
      used = x.used;
      free =
          x.free;
      total = x.total;
      billed = x.billed;
    } in r) e5
    ∙ (ap (λ (z : ℕ). let r : Report = record {
      cars = y.cars;
      flights = y.flights;
      rooms = y.rooms;
      customers = y.customers;
      bookings = y.bookings;
      used = z;
      free =
          x.free;
      total = x.total;
      billed = x.billed;
    } in r) e6
    ∙ (ap (λ (z : ℕ). let r : Report = record {
      cars = y.cars;
      flights = y.flights;
      rooms = y.rooms;
      customers = y.customers;
      bookings = y.bookings;
      used = y.used;
      free =
          z;
      total = x.total;
      billed = x.billed;
    } in r) e7
    ∙ (ap (λ (z : ℕ). let r : Report = record {
      cars = y.cars;
      flights = y.flights;
      rooms = y.rooms;
      customers = y.customers;
      bookings = y.bookings;
      used = y.used;
      free =
          y.free;
      total = z;
      billed = x.billed;
    } in r) e8
    ∙ ap (λ (z : ℕ). let r : Report = record {
      cars = y.cars;
      flights = y.flights;
      rooms = y.rooms;
      customers = y.customers;
      bookings = y.bookings;
      used = y.used;
      free =
          y.free;
      total = y.total;
      billed = z;
    } in r) e9)))))))

module _ (words : List ℕ) (blocks : ℕ) (marks0 : List Bool) (size : length words ≡ 16 + 8 * blocks)
    (many : length marks0 ≡ blocks) where
  as_audit : (r : Result Report Flaw) → audit_with (slice_index words) (length words) (suc (length marks0)) blocks ≡ r →
      audit (slice_index words) blocks ≡ r
  as_audit r h = subst (λ (z : ℕ). audit_with (slice_index words) z (suc blocks) blocks ≡ r) size
      (subst (λ (z : ℕ). audit_with (slice_index words) (length words) (suc z) blocks ≡ r) many h)

  pub heap_items : (marks1 : List Bool) (notes1 : Notes) (fault : Fault) → Marks marks0 [] →
      ItemsRan words marks0 marks1 notes1 (Err fault) → HeapRan words blocks (Err fault)
  heap_items marks1 notes1 Memory q f = tt
  heap_items marks1 notes1 (Found flaw) q f = as_audit (Err flaw)
      (items_bad (slice_index words) (length words) (suc (length marks0)) blocks flaw (f start q))

  module _ (marks1 : List Bool) (notes1 : Notes) (kinds : Kinds)
      (w : ItemsWalked words marks0 marks1 notes1 kinds start) (size1 : length marks1 ≡ length marks0) where
    ga : GoodRows (length words) 1 w.a
    ga = table_good (slice_index words) (length words) (look_at_item (slice_index words))
        (suc (length marks0)) 1 start _ w.is_a

    gb : GoodRows (length words) 1 w.b
    gb = table_good (slice_index words) (length words) (look_at_item (slice_index words))
        (suc (length marks0)) 2 w.s1 _ w.is_b

    gc : GoodRows (length words) 1 w.c
    gc = table_good (slice_index words) (length words) (look_at_item (slice_index words))
        (suc (length marks0)) 3 w.s2 _ w.is_c

    codes_are : codes_in notes1.items.items ≡ (codes_of 0 w.a ++ codes_of 1 w.b) ++ codes_of 2 w.c
    codes_are = ap (λ (z : List NotedItem). codes_in z) w.items ∙ all_codes w.a w.b w.c

    blocks_are : blocks_in notes1.items.items ≡ (blocks_of 0 w.a ++ blocks_of 1 w.b) ++ blocks_of 2 w.c
    blocks_are = ap (λ (z : List NotedItem). blocks_in z) w.items ∙ all_blocks w.a w.b w.c

    pub order_of : InOrder notes1.items.items
    order_of = subst (λ (z : List NotedItem). InOrder z) (sym w.items) (all_order (length words) w.a w.b w.c ga gb gc)

    pub uncounted_of : Uncounted notes1
    uncounted_of = record {
      booked = subst (λ (z : List NotedItem). All (λ item. item.booked ≡ 0) z) (sym w.items) (all_none w.a w.b w.c);
      bookings = w.bookings;
      billed = w.billed;
    }

    pub index_of : IsIndex (codes_in notes1.items.items) (tables_of w.a w.b w.c)
    index_of = subst (λ (z : List ℕ). IsIndex z (tables_of w.a w.b w.c)) (sym codes_are)
        (all_index (length words) w.a w.b w.c ga gb gc)

    inside_of : Inside words notes1.items.items
    inside_of = subst (λ (z : List NotedItem). Inside words z) (sym w.items)
        (all_inside (length words) w.a w.b w.c ga gb gc)

    items_is : walk_items (slice_index words) (length words) (suc (length marks0)) 3 start ≡ Ok (
      tables_of w.a w.b w.c,
      w.s3,
    )
    items_is = next_ok (slice_index words) (length words) (suc (length marks0)) start 2 _
        (next_ok (slice_index words) (length words) (suc (length marks0)) start 1 _
        (first_ok (slice_index words) (length words) (suc (length marks0)) start w.a w.s1 w.is_a) w.b w.s2 w.is_b) w.c
        w.s3 w.is_c

    pub heap_customers : (marks2 : List Bool) (notes2 : Notes) (fault : Fault) →
        CustomersRan words marks1 marks2 notes1 notes2 (Err fault) → HeapRan words blocks (Err fault)
    heap_customers marks2 notes2 Memory f = tt
    heap_customers marks2 notes2 (Found flaw) f = as_audit (Err flaw)
        (customers_bad (slice_index words) (length words) (suc (length marks0)) blocks (
          tables_of w.a w.b w.c,
          w.s3,
        ) items_is flaw
        (subst (λ (z : ℕ). walk_table (slice_index words) (length words)
        (look_at_customer (slice_index words) (length words) (tables_of w.a w.b w.c) (suc z))
        (suc z) 4 w.s3 ≡ Err flaw) size1 (f (tables_of w.a w.b w.c) index_of w.s3 w.are)))

    module _ (marks2 : List Bool) (notes2 : Notes) (customers : ℕ)
        (f : CustomersRan words marks1 marks2 notes1 notes2 (Ok customers))
        (size2 : length marks2 ≡ length marks1) where
      v : CustomersWalked words marks1 marks2 notes1 notes2 (tables_of w.a w.b w.c) customers w.s3
      v = f (tables_of w.a w.b w.c) index_of w.s3 w.are

      customers_is : walk_table (slice_index words) (length words)
          (look_at_customer (slice_index words) (length words) (tables_of w.a w.b w.c) (suc (length marks0)))
          (suc (length marks0)) 4 w.s3 ≡ Ok (v.rows, v.s')
      customers_is = subst (λ (z : ℕ). walk_table (slice_index words) (length words)
          (look_at_customer (slice_index words) (length words) (tables_of w.a w.b w.c) (suc z)) (suc z) 4 w.s3 ≡ Ok
          (v.rows, v.s')) size1 v.is

      pub inside_still : Inside words notes2.items.items
      inside_still = same_inside notes1 notes2 v.items (length words) inside_of

      same_long : length (codes_in notes1.items.items) ≡ length notes2.items.items
      same_long = length_codes notes1.items.items ∙ sym (same_length notes1 notes2 v.items)

      counts : (i : ℕ) → i < length notes2.items.items → slice_index (booked_in notes2.items.items) i ≡ over
          (units_in (slice_index words) (slice_index (codes_in notes1.items.items) i)) v.rows v.s'.lists
      counts i l = v.booked i (omega (arith, l, same_length notes1 notes2 v.items))

      pub heap_used : (flaw : Flaw) → UsedRan words notes2.items.items (Err flaw) →
          HeapRan words blocks (Err (Found flaw))
      heap_used flaw g = as_audit (Err flaw) (used_bad (slice_index words) (length words) (suc (length marks0)) blocks
          (tables_of w.a w.b w.c, w.s3) items_is (v.rows, v.s') customers_is flaw
          (used_err words (codes_in notes1.items.items) notes2.items.items w.a w.b w.c v.rows v.s'.lists codes_are
          (v.items.blocks ∙ blocks_are) same_long counts flaw g))

      module _ (g : UsedRan words notes2.items.items (Ok tt)) where
        used_is : check_all_used (slice_index words) (with_at (tables_of w.a w.b w.c) 3 v.rows) v.s'.lists 3 ≡ Ok tt
        used_is = used_ok words (codes_in notes1.items.items) notes2.items.items w.a w.b w.c v.rows v.s'.lists codes_are
            (v.items.blocks ∙ blocks_are) same_long counts g

        pub heap_lists : (marks3 : List Bool) (flaw : Flaw) → ListsRan words marks2 marks3 (Err flaw) →
            HeapRan words blocks (Err (Found flaw))
        heap_lists marks3 flaw h = as_audit (Err flaw) (lists_bad (slice_index words) (length words)
            (suc (length marks0)) blocks (tables_of w.a w.b w.c, w.s3) items_is (v.rows, v.s') customers_is used_is flaw
            (subst (λ (z : ℕ). walk_lists (slice_index words) (length words) (suc z) 8 v.s'.blocks ≡ Err flaw)
            (size2 ∙ size1) (h v.s'.blocks v.are)))

        module _ (marks3 : List Bool) (h : ListsRan words marks2 marks3 (Ok tt))
            (size3 : length marks3 ≡ length marks2) where
          free : (ℕ → List ℕ) × List ℕ
          free = (h v.s'.blocks v.are).0

          free_is : walk_lists (slice_index words) (length words) (suc (length marks0)) 8 v.s'.blocks ≡ Ok free
          unfolding free
          free_is = subst (λ (z : ℕ). walk_lists (slice_index words) (length words) (suc z) 8 v.s'.blocks ≡ Ok free)
              (size2 ∙ size1) (h v.s'.blocks v.are).1.0

          pub heap_reached : (flaw : Flaw) → ReachedRan marks3 (Err flaw) → HeapRan words blocks (Err (Found flaw))
          unfolding free
          heap_reached flaw k = as_audit (Err flaw) (reached_bad (slice_index words) (length words)
              (suc (length marks0)) blocks (tables_of w.a w.b w.c, w.s3) items_is (
                v.rows,
                v.s',
              ) customers_is used_is free free_is flaw
              (subst (λ (z : ℕ). check_reached z free.1 ≡ Err flaw) (size3 ∙ (size2 ∙ (size1 ∙ many)))
              (k free.1 (h v.s'.blocks v.are).1.1)))

          report_is : (report : Report) → report.cars ≡ kinds.cars → report.flights ≡ kinds.flights →
              report.rooms ≡ kinds.rooms → report.customers ≡ customers
              → report.bookings ≡ notes2.tally.bookings → report.used ≡ notes2.tally.used →
              report.free ≡ notes2.tally.free → report.total ≡ notes2.tally.total →
              report.billed ≡ notes2.tally.billed
              → report ≡ report_of (slice_index words) (record {
                tables = with_at (tables_of w.a w.b w.c) 3 v.rows;
                lists = v.s'.lists;
                free = free.0;
                out = [];
              })
          report_is report e1 e2 e3 e4 e5 e6 e7 e8 e9 =
              let cars : report.cars ≡ length w.a = e1 ∙ w.cars in
              let flights : report.flights ≡ length w.b = e2 ∙ w.flights in
              let rooms : report.rooms ≡ length w.c = e3 ∙ w.rooms in
              let customers_are : report.customers ≡ length v.rows = e4 ∙ v.many in
              let bookings : report.bookings ≡ over (sum_by (λ r. slice_index words (r.1 + 4))) v.rows v.s'.lists =
              e5 ∙ v.bookings in
              let used : report.used ≡ sum_by (λ (r : ℕ × ℕ). slice_index words (r.1 + 4)) w.c +
              (sum_by (λ (r : ℕ × ℕ). slice_index words (r.1 + 4)) w.b +
              (sum_by (λ (r : ℕ × ℕ). slice_index words (r.1 + 4)) w.a + 0)) =
              omega (arith, e6, v.items.used, w.used) in
              let unused : report.free ≡ sum_by (λ (r : ℕ × ℕ). slice_index words (r.1 + 5)) w.c +
              (sum_by (λ (r : ℕ × ℕ). slice_index words (r.1 + 5)) w.b +
              (sum_by (λ (r : ℕ × ℕ). slice_index words (r.1 + 5)) w.a + 0)) =
              omega (arith, e7, v.items.free, w.free) in
              let total : report.total ≡ sum_by (λ (r : ℕ × ℕ). slice_index words (r.1 + 6)) w.c +
              (sum_by (λ (r : ℕ × ℕ). slice_index words (r.1 + 6)) w.b +
              (sum_by (λ (r : ℕ × ℕ). slice_index words (r.1 + 6)) w.a + 0)) =
              omega (arith, e8, v.items.total, w.total) in
              let billed : report.billed ≡ over (sum_by (λ r. slice_index words (r.1 + 2))) v.rows v.s'.lists =
              e9 ∙ v.billed in
              same_report report _ cars flights rooms customers_are bookings used unused total billed

          pub heap_done : (report : Report) → ReachedRan marks3 (Ok tt) → report.cars ≡ kinds.cars →
              report.flights ≡ kinds.flights → report.rooms ≡ kinds.rooms → report.customers ≡ customers
              → report.bookings ≡ notes2.tally.bookings → report.used ≡ notes2.tally.used →
              report.free ≡ notes2.tally.free → report.total ≡ notes2.tally.total →
              report.billed ≡ notes2.tally.billed → HeapRan words blocks (Ok report)
          unfolding free
          heap_done report k e1 e2 e3 e4 e5 e6 e7 e8 e9 = as_audit (Ok report)
              (all_good (slice_index words) (length words) (suc (length marks0)) blocks (
                tables_of w.a w.b w.c,
                w.s3,
              ) items_is (v.rows, v.s') customers_is used_is free free_is report
              (subst (λ (z : ℕ). check_reached z free.1 ≡ Ok tt) (size3 ∙ (size2 ∙ (size1 ∙ many)))
              (k free.1 (h v.s'.blocks v.are).1.1)) (report_is report e1 e2 e3 e4 e5 e6 e7 e8 e9))

-- this many words are those of a heap
pub heap_size : (n : ℕ) → 24 ≤ n → n ≤ MOST_HEAP_WORDS → n % 8 ≡ 0 → IsHeapSize n
heap_size n low high whole = ((n - 16) / 8, (omega (arith, whole), omega arith, omega arith))

pub audited_ok : (words : List ℕ) (report : Report) → HeapRan words ((length words - 16) / 8) (Ok report) →
    (heap : IsHeapSize (length words)) → Audited (slice_index words) heap.0 (Ok report)
audited_ok words report h heap =
    let e : (length words - 16) / 8 ≡ heap.0 = omega (arith, heap.1.0) in
    let q : audit (slice_index words) heap.0 ≡ Ok report = subst
    (λ (z : ℕ). audit (slice_index words) z ≡ Ok report) e h in
    inr (sym (ap audit_answer q))

pub audited_flaw : (words : List ℕ) (fault : Fault) (flaw : Flaw) → fault ≡ Found flaw →
    HeapRan words ((length words - 16) / 8) (Err fault) → (heap : IsHeapSize (length words)) →
    Audited (slice_index words) heap.0 (Err (Flawed flaw))
audited_flaw words fault flaw is h heap =
    let e : (length words - 16) / 8 ≡ heap.0 = omega (arith, heap.1.0) in
    let g : HeapRan words ((length words - 16) / 8) (Err (Found flaw)) =
    subst (λ (z : Fault). HeapRan words ((length words - 16) / 8) (Err z)) is h in
    let q : audit (slice_index words) heap.0 ≡ Err flaw = subst
    (λ (z : ℕ). audit (slice_index words) z ≡ Err flaw) e g in
    inr (sym (ap audit_answer q))

pub audited_fault : (words : List ℕ) (fault : Fault) → HeapRan words ((length words - 16) / 8) (Err fault) →
    (heap : IsHeapSize (length words)) → Audited (slice_index words) heap.0 (Err (fault_answer fault))
audited_fault words Memory h heap = inl refl
audited_fault words (Found flaw) h heap = audited_flaw words (Found flaw) flaw refl h heap
