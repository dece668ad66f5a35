use Rattle.std.specs.Prelude.{Ok, Err, slice_index}
use Rattle.std.proofs.Common.{refl, arith, ap, ◌∙◌, sym, subst, List, length, get_or, ◌<◌, ◌^◌}
use Rattle.vac_bookings.specs.Bookings.{code_of}
use Rattle.vac_audit.specs.Noted.{InOrder, codes_in, least_next}
use Rattle.vac_audit.specs.Marks.{BookingsRan}
use Rattle.vac_audit.specs.declared.notes.NotedItem.{NotedItem}
use Rattle.vac_audit.proofs.Noted.{code_at, units_at, short_at}
use Rattle.vac_audit.proofs.Running.{handed, found_as, lands_as, fewer_as}
use Rattle.vac_audit.proofs.Booked.{looked_as, book_start, book_end, book_flaw, book_bad, one_booked, book_step}
use Rattle.vac_audit.proofs.Booked.{book_out}
use Rattle.vac_audit.proofs.bookings.walk_bookings.Goals as goal

pub loop-level-init : goal.loop-level-init
loop-level-init c = (book_start _ _ _ _ c.requires.inside c.requires.counting, tt)

pub returns-in_err-follow-clause-ran : goal.returns-in_err-follow-clause-ran
returns-in_err-follow-clause-ran c = handed (λ r. BookingsRan c.args.words.now c.args.reached.now.items
    c.follow.new.reached.items c.args.notes.now c.loop-level.notes c.args.head r) c.from_residual.result _
    c.from_residual.ensures.1
    (book_flaw _ _ _ c.loop-level.reached.items c.follow.new.reached.items _ c.loop-level.notes c.loop-level._level
    c.loop-level.at (least_next c.loop-level.last) _ c.loop-level.invariant.0
    (omega arith) c.in_err-follow.ensures.followed)

pub returns-in-None-clause-ran : goal.returns-in-None-clause-ran
returns-in-None-clause-ran c = book_end _ _ _ c.loop-level.reached.items c.follow.new.reached.items _ c.loop-level.notes
    c.loop-level._level c.loop-level.at (least_next c.loop-level.last) c.loop-level.invariant.0 (omega arith)
    (found_as c.args.words.now c.loop-level.reached.items c.follow.new.reached.items c.loop-level.at _ _ c.in-None.is
    c.in_ok-follow.ensures.followed)

pub look_at_booking-requires-clause-order : goal.look_at_booking-requires-clause-order
look_at_booking-requires-clause-order c = subst (λ (z : List NotedItem). InOrder z)
    (sym c.as_slice.ensures.value) c.loop-level.invariant.0.counting.order

pub returns-in_err-index-in-Some-clause-ran : goal.returns-in_err-index-in-Some-clause-ran
returns-in_err-index-in-Some-clause-ran c = handed (λ r. BookingsRan c.args.words.now c.args.reached.now.items
    c.follow.new.reached.items c.args.notes.now c.loop-level.notes c.args.head r)
    c.from_residual-in_err-index-in-Some.result _ c.from_residual-in_err-index-in-Some.ensures.1
    (book_bad _ _ _ c.loop-level.reached.items c.follow.new.reached.items _ c.loop-level.notes c.loop-level._level
    c.loop-level.at (least_next c.loop-level.last) _ _ c.loop-level.invariant.0 (omega arith)
    (found_as c.args.words.now c.loop-level.reached.items c.follow.new.reached.items c.loop-level.at _ _ c.in-Some.is
    c.in_ok-follow.ensures.followed)
    (lands_as c.args.words.now _ _ c.in-Some.is c.in_ok-follow.ensures.lands)
    (looked_as c.args.words.now _ _ c.in-Some.booking (least_next c.loop-level.last)
    (Err c.in_err-index-in-Some.field-0.0) c.as_slice.ensures.value c.in_err-index-in-Some.ensures.looked))

pub overflow_add-item-in-Some : goal.overflow_add-item-in-Some
overflow_add-item-in-Some c =
    let items = c.loop-level.notes.items.items in
    let inside : c.in_ok-index-in-Some.index < length items =
    omega (
      arith,
      c.in_ok-index-in-Some.ensures.item.0,
      ap (λ (z : List NotedItem). length z)
          c.as_slice.ensures.value,
    ) in
    omega (
      arith,
      ap (λ (z : NotedItem). z.booked) c.index_mut-item.ensures.value,
      units_at items c.in_ok-index-in-Some.index c.index_mut-item.result.now inside,
      c.loop-level.invariant.0.counting.booked c.in_ok-index-in-Some.index,
      fewer_as _ _ _ _ c.in-Some.is c.in_ok-follow.ensures.fewer,
      c.in_ok-index-in-Some.ensures.units,
    )

pub loop-level-preserved : goal.loop-level-preserved
loop-level-preserved c =
    let items = c.loop-level.notes.items.items in
    let index = c.in_ok-index-in-Some.index in
    let inside : index < length items = omega (
      arith,
      c.in_ok-index-in-Some.ensures.item.0,
      ap (λ (z : List NotedItem). length z) c.as_slice.ensures.value,
    ) in
    let is = ap (λ (z : List NotedItem). get_or (codes_in z) index 0) (sym c.as_slice.ensures.value) ∙
    c.in_ok-index-in-Some.ensures.item.1 in
    let item = c.index_mut-item.ensures.value in (
      book_step _ _ _ c.loop-level.reached.items c.follow.new.reached.items _ c.loop-level.notes _ c.loop-level._level
          c.loop-level.at (least_next c.loop-level.last) _ index _ c.loop-level.invariant.0 (omega arith)
          c.follow.ensures.size (fewer_as _ _ _ _ c.in-Some.is c.in_ok-follow.ensures.fewer)
          (found_as c.args.words.now c.loop-level.reached.items c.follow.new.reached.items c.loop-level.at _ _
          c.in-Some.is c.in_ok-follow.ensures.followed)
          (lands_as c.args.words.now _ _ c.in-Some.is c.in_ok-follow.ensures.lands)
          (looked_as c.args.words.now _ _ c.in-Some.booking (least_next c.loop-level.last)
          (Ok index) c.as_slice.ensures.value c.in_ok-index-in-Some.ensures.looked) inside is
          (omega (
            arith,
            ap (λ (z : NotedItem). code_of z.key) item,
            code_at items index c.index_mut-item.result.now inside,
            is,
          )) c.in_ok-index-in-Some.ensures.units c.in_ok-index-in-Some.ensures.sum
          (one_booked (slice_index c.args.words.now) c.loop-level.notes _ index c.in-Some.booking
          c.index_mut-item.result.now _ inside item refl refl),
      subst (λ (z : NotedItem). z.key.id < 2 ^ 32) (sym item)
          (short_at items index _ inside c.loop-level.invariant.0.counting.order),
    )

pub returns-clause-ran : goal.returns-clause-ran
returns-clause-ran c = book_out _ _ _ c.loop-level.reached.items _ c.loop-level.notes c.loop-level._level
    c.loop-level.at (least_next c.loop-level.last) c.loop-level.invariant.0 (omega arith)
