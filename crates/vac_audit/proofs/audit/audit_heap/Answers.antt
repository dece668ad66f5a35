use Rattle.std.proofs.Common.{Ok, Err, refl, arith}
use Rattle.vac_audit.specs.Ran.{HeapRan}
use Rattle.vac_audit.proofs.Running.{handed}
use Rattle.vac_audit.proofs.Walks.{unmarked_few, counting_start, customers_ran}
use Rattle.vac_audit.proofs.Whole.{start, heap_items, order_of, uncounted_of, heap_customers, inside_still, heap_used}
use Rattle.vac_audit.proofs.Whole.{heap_lists, heap_reached, heap_done, starts}
use Rattle.vac_audit.proofs.audit.audit_heap.Goals as goal

pub returns-in_err-kinds : goal.returns-in_err-kinds
returns-in_err-kinds c =
    let o = starts c.in_ok-reached.reached.items c.args.blocks
    (c.in_ok-reached.ensures.items_if_clones_equal (λ y e. e)) in
    record {
      ran = handed (λ r. HeapRan c.args.words.now c.args.blocks
          r) c.from_residual-in_err-kinds.result _ c.from_residual-in_err-kinds.ensures.1
          (heap_items c.args.words.now c.args.blocks c.in_ok-reached.reached.items c.requires.size o.0
          c.walk_items.new.reached.items c.walk_items.new.notes _ o.1 c.in_err-kinds.ensures.ran);
    }

pub walk_table-requires-clause-ready : goal.walk_table-requires-clause-ready
walk_table-requires-clause-ready c =
    let o = starts c.in_ok-reached.reached.items c.args.blocks
    (c.in_ok-reached.ensures.items_if_clones_equal (λ y e. e)) in
    let w = c.in_ok-kinds.ensures.ran start o.1 in
    counting_start c.walk_items.new.notes _ (order_of c.args.words.now c.args.blocks c.in_ok-reached.reached.items
    c.requires.size o.0
    c.walk_items.new.reached.items c.walk_items.new.notes c.in_ok-kinds.kinds w c.in_ok-kinds.ensures.size)
    (uncounted_of c.args.words.now c.args.blocks c.in_ok-reached.reached.items c.requires.size o.0
    c.walk_items.new.reached.items c.walk_items.new.notes c.in_ok-kinds.kinds w c.in_ok-kinds.ensures.size)
    (omega (arith, unmarked_few c.walk_items.new.reached.items, c.in_ok-kinds.ensures.size, o.0, c.requires.few))

pub returns-in_err-customers : goal.returns-in_err-customers
returns-in_err-customers c =
    let o = starts c.in_ok-reached.reached.items c.args.blocks
    (c.in_ok-reached.ensures.items_if_clones_equal (λ y e. e)) in
    let w = c.in_ok-kinds.ensures.ran start o.1 in
    let un = uncounted_of c.args.words.now c.args.blocks c.in_ok-reached.reached.items c.requires.size o.0
    c.walk_items.new.reached.items c.walk_items.new.notes c.in_ok-kinds.kinds w c.in_ok-kinds.ensures.size in
    record {
      ran = handed (λ r. HeapRan c.args.words.now c.args.blocks
          r) c.from_residual-in_err-customers.result _ c.from_residual-in_err-customers.ensures.1
          (heap_customers c.args.words.now c.args.blocks c.in_ok-reached.reached.items c.requires.size o.0
          c.walk_items.new.reached.items c.walk_items.new.notes c.in_ok-kinds.kinds w c.in_ok-kinds.ensures.size
          c.walk_table.new.reached.items c.walk_table.new.notes _
          (customers_ran c.args.words.now c.walk_items.new.reached.items c.walk_table.new.reached.items
          c.walk_items.new.notes c.walk_table.new.notes (Err _) un c.in_err-customers.ensures.ran));
    }

pub check_used-requires-clause-inside : goal.check_used-requires-clause-inside
check_used-requires-clause-inside c =
    let o = starts c.in_ok-reached.reached.items c.args.blocks
    (c.in_ok-reached.ensures.items_if_clones_equal (λ y e. e)) in
    let w = c.in_ok-kinds.ensures.ran start o.1 in
    let un = uncounted_of c.args.words.now c.args.blocks c.in_ok-reached.reached.items c.requires.size o.0
    c.walk_items.new.reached.items c.walk_items.new.notes c.in_ok-kinds.kinds w c.in_ok-kinds.ensures.size in
    let f = customers_ran c.args.words.now c.walk_items.new.reached.items c.walk_table.new.reached.items
    c.walk_items.new.notes c.walk_table.new.notes (Ok c.in_ok-customers.customers) un
    c.in_ok-customers.ensures.ran in
    inside_still c.args.words.now c.args.blocks c.in_ok-reached.reached.items c.requires.size o.0
    c.walk_items.new.reached.items c.walk_items.new.notes c.in_ok-kinds.kinds w c.in_ok-kinds.ensures.size
    c.walk_table.new.reached.items c.walk_table.new.notes c.in_ok-customers.customers
    f c.in_ok-customers.ensures.size

pub returns-in_err-check_used : goal.returns-in_err-check_used
returns-in_err-check_used c =
    let o = starts c.in_ok-reached.reached.items c.args.blocks
    (c.in_ok-reached.ensures.items_if_clones_equal (λ y e. e)) in
    let w = c.in_ok-kinds.ensures.ran start o.1 in
    let un = uncounted_of c.args.words.now c.args.blocks c.in_ok-reached.reached.items c.requires.size o.0
    c.walk_items.new.reached.items c.walk_items.new.notes c.in_ok-kinds.kinds w c.in_ok-kinds.ensures.size in
    let f = customers_ran c.args.words.now c.walk_items.new.reached.items c.walk_table.new.reached.items
    c.walk_items.new.notes c.walk_table.new.notes (Ok c.in_ok-customers.customers) un
    c.in_ok-customers.ensures.ran in
    record {
      ran = handed (λ r. HeapRan c.args.words.now c.args.blocks
          r) c.from_residual-in_err-check_used.result _ c.from_residual-in_err-check_used.ensures.1
          (heap_used c.args.words.now c.args.blocks c.in_ok-reached.reached.items c.requires.size o.0
          c.walk_items.new.reached.items c.walk_items.new.notes c.in_ok-kinds.kinds w c.in_ok-kinds.ensures.size
          c.walk_table.new.reached.items c.walk_table.new.notes c.in_ok-customers.customers
          f c.in_ok-customers.ensures.size _ c.in_err-check_used.ensures.ran);
    }

pub returns-in_err-walk_lists : goal.returns-in_err-walk_lists
returns-in_err-walk_lists c =
    let o = starts c.in_ok-reached.reached.items c.args.blocks
    (c.in_ok-reached.ensures.items_if_clones_equal (λ y e. e)) in
    let w = c.in_ok-kinds.ensures.ran start o.1 in
    let un = uncounted_of c.args.words.now c.args.blocks c.in_ok-reached.reached.items c.requires.size o.0
    c.walk_items.new.reached.items c.walk_items.new.notes c.in_ok-kinds.kinds w c.in_ok-kinds.ensures.size in
    let f = customers_ran c.args.words.now c.walk_items.new.reached.items c.walk_table.new.reached.items
    c.walk_items.new.notes c.walk_table.new.notes (Ok c.in_ok-customers.customers) un
    c.in_ok-customers.ensures.ran in
    record {
      ran = handed (λ r. HeapRan c.args.words.now c.args.blocks
          r) c.from_residual-in_err-walk_lists.result _ c.from_residual-in_err-walk_lists.ensures.1
          (heap_lists c.args.words.now c.args.blocks c.in_ok-reached.reached.items c.requires.size o.0
          c.walk_items.new.reached.items c.walk_items.new.notes c.in_ok-kinds.kinds w c.in_ok-kinds.ensures.size
          c.walk_table.new.reached.items c.walk_table.new.notes c.in_ok-customers.customers
          f c.in_ok-customers.ensures.size c.in_ok-check_used.ensures.ran
          c.walk_lists.new.reached.items _ c.in_err-walk_lists.ensures.ran);
    }

pub returns-in_err-check_reached : goal.returns-in_err-check_reached
returns-in_err-check_reached c =
    let o = starts c.in_ok-reached.reached.items c.args.blocks
    (c.in_ok-reached.ensures.items_if_clones_equal (λ y e. e)) in
    let w = c.in_ok-kinds.ensures.ran start o.1 in
    let un = uncounted_of c.args.words.now c.args.blocks c.in_ok-reached.reached.items c.requires.size o.0
    c.walk_items.new.reached.items c.walk_items.new.notes c.in_ok-kinds.kinds w c.in_ok-kinds.ensures.size in
    let f = customers_ran c.args.words.now c.walk_items.new.reached.items c.walk_table.new.reached.items
    c.walk_items.new.notes c.walk_table.new.notes (Ok c.in_ok-customers.customers) un
    c.in_ok-customers.ensures.ran in
    record {
      ran = handed (λ r. HeapRan c.args.words.now c.args.blocks
          r) c.from_residual-in_err-check_reached.result _ c.from_residual-in_err-check_reached.ensures.1
          (heap_reached c.args.words.now c.args.blocks c.in_ok-reached.reached.items c.requires.size o.0
          c.walk_items.new.reached.items c.walk_items.new.notes c.in_ok-kinds.kinds w c.in_ok-kinds.ensures.size
          c.walk_table.new.reached.items c.walk_table.new.notes c.in_ok-customers.customers
          f c.in_ok-customers.ensures.size c.in_ok-check_used.ensures.ran
          c.walk_lists.new.reached.items c.in_ok-walk_lists.ensures.ran c.in_ok-walk_lists.ensures.size _
          c.in_err-check_reached.ensures.ran);
    }

pub returns : goal.returns
returns c =
    let o = starts c.in_ok-reached.reached.items c.args.blocks
    (c.in_ok-reached.ensures.items_if_clones_equal (λ y e. e)) in
    let w = c.in_ok-kinds.ensures.ran start o.1 in
    let un = uncounted_of c.args.words.now c.args.blocks c.in_ok-reached.reached.items c.requires.size o.0
    c.walk_items.new.reached.items c.walk_items.new.notes c.in_ok-kinds.kinds w c.in_ok-kinds.ensures.size in
    let f = customers_ran c.args.words.now c.walk_items.new.reached.items c.walk_table.new.reached.items
    c.walk_items.new.notes c.walk_table.new.notes (Ok c.in_ok-customers.customers) un
    c.in_ok-customers.ensures.ran in
    record {
      ran = heap_done c.args.words.now c.args.blocks c.in_ok-reached.reached.items
          c.requires.size o.0 c.walk_items.new.reached.items c.walk_items.new.notes c.in_ok-kinds.kinds w
          c.in_ok-kinds.ensures.size c.walk_table.new.reached.items c.walk_table.new.notes
          c.in_ok-customers.customers f c.in_ok-customers.ensures.size
          c.in_ok-check_used.ensures.ran c.walk_lists.new.reached.items c.in_ok-walk_lists.ensures.ran
          c.in_ok-walk_lists.ensures.size _ c.in_ok-check_reached.ensures.ran refl refl refl refl refl refl refl refl
          refl;
    }
