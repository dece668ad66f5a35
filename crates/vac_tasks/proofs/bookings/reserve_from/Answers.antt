use Rattle.vac_tasks.proofs.Held.{held_on, read_both, item_is_on, customer_is_on}
use Rattle.vac_records.proofs.Shifts.{kind_small}
use Rattle.vac_tasks.proofs.Small.{reserve_small}
use Rattle.vac_tasks.proofs.Owners.{booking_held, sought_only}
use Rattle.vac_tasks.proofs.Staying.{start_is_on, start_held, spot_begins}
use Rattle.vac_tasks.proofs.Reserving.{load_only, sold_out, start_priced, offered}
use Rattle.vac_tasks.proofs.Reserving.{reserved_some, some_leaves, reserved_none, none_leaves, full_leaves}
use Rattle.vac_tasks.proofs.bookings.reserve_from.Goals as goal

pub returns-then-free-num-clause-answer : goal.returns-then-free-num-clause-answer
returns-then-free-num-clause-answer g c =
    sold_out _ _ _ _ _ _ _ _ _ _ _ c.in_ok-free.ensures.answer c.if-free-num.true

pub returns-then-free-num-clause-from : goal.returns-then-free-num-clause-from
returns-then-free-num-clause-from g c =
    start_priced _ _ _ _ _ _ _ _ _ c.requires.from.room (load_only _ _ _ _ c.in_ok-free.ensures.answer)

pub seek-requires-clause-list : goal.seek-requires-clause-list
seek-requires-clause-list g c =
    let reads = load_only _ _ _ _ c.in_ok-free.ensures.answer in
    start_held _ _ _ _ _ (held_on _ _ reads c.requires.state) (customer_is_on _ _ _ _ reads c.requires.customer)
    (start_is_on _ _ _ _ _ reads c.requires.from)

pub seek-requires-clause-key : goal.seek-requires-clause-key
seek-requires-clause-key g c =
    let fits = reserve_small c.args.who.customer c.args.what.kind c.args.what.id c.args.units.num c.requires.range in
    (rw c.key_of.ensures.kind (kind_small c.args.what.kind), rw c.key_of.ensures.id fits.0)

pub extend_booking-requires : goal.extend_booking-requires
extend_booking-requires g c =
    let spot = rw (c.key_of.ensures.kind, c.key_of.ensures.id) at c.in_ok-spot.ensures.answer in
    let loads = load_only _ _ _ _ c.in_ok-free.ensures.answer in
    let reads = read_both _ _ _ loads (sought_only _ _ _ _ _ c.in_ok-spot.ensures.answer) in
    record {
      ready = record {
        serve = record {
          state = held_on _ _ reads c.requires.state;
          customer = customer_is_on _ _ _ _ reads c.requires.customer;
          item = item_is_on _ _ _ _ _ reads c.requires.item;
          range = c.requires.range;
        };
        offered = offered _ _ _ _ _ _ _ c.in_ok-free.ensures.answer c.if-free-num.false
            c.requires.price (sought_only _ _ _ _ _ c.in_ok-spot.ensures.answer);
      };
      booking = booking_held _ _ (c.args.what.kind, c.args.what.id) _ _ c.in-Some.is
          (spot_begins _ _ _ _ (c.args.what.kind, c.args.what.id) _ _
          (customer_is_on _ _ _ _ loads c.requires.customer) (start_is_on _ _ _ _ _ loads c.requires.from) spot);
    }

pub add_booking-requires-clause-ready : goal.add_booking-requires-clause-ready
add_booking-requires-clause-ready g c =
    let loads = load_only _ _ _ _ c.in_ok-free.ensures.answer in
    let reads = read_both _ _ _ loads (sought_only _ _ _ _ _ c.in_ok-spot.ensures.answer) in
    record {
      serve = record {
        state = held_on _ _ reads c.requires.state;
        customer = customer_is_on _ _ _ _ reads c.requires.customer;
        item = item_is_on _ _ _ _ _ reads c.requires.item;
        range = c.requires.range;
      };
      offered = offered _ _ _ _ _ _ _ c.in_ok-free.ensures.answer c.if-free-num.false
          c.requires.price (sought_only _ _ _ _ _ c.in_ok-spot.ensures.answer);
    }

pub add_booking-requires-clause-spot : goal.add_booking-requires-clause-spot
add_booking-requires-clause-spot g c =
    let spot = rw (c.key_of.ensures.kind, c.key_of.ensures.id) at c.in_ok-spot.ensures.answer in
    let loads = load_only _ _ _ _ c.in_ok-free.ensures.answer in
    spot_begins _ _ _ _ (c.args.what.kind, c.args.what.id) _ _ (customer_is_on _ _ _ _ loads c.requires.customer)
    (start_is_on _ _ _ _ _ loads c.requires.from) spot

pub returns-in_default-clause-answer : goal.returns-in_default-clause-answer
returns-in_default-clause-answer g c =
    let spot = rw (c.key_of.ensures.kind, c.key_of.ensures.id) at c.in_ok-spot.ensures.answer in
    let loads = load_only _ _ _ _ c.in_ok-free.ensures.answer in
    reserved_none _ _ _ _ _ _ _ _ _ _ _ _ loads spot _ _
    (rw c.in_default.is at c.in_ok-added-in-None.ensures.answer)

pub returns-in_default-clause-from : goal.returns-in_default-clause-from
returns-in_default-clause-from g c =
    let spot = rw (c.key_of.ensures.kind, c.key_of.ensures.id) at c.in_ok-spot.ensures.answer in
    let loads = load_only _ _ _ _ c.in_ok-free.ensures.answer in
    full_leaves _ _ _ _ _ _ _ _ _ _ _ _ loads spot _ _ c.requires.from.room
    (rw c.in_default.is at c.in_ok-added-in-None.ensures.answer)

pub returns-in_ok-refused-in-Some-clause-answer : goal.returns-in_ok-refused-in-Some-clause-answer
returns-in_ok-refused-in-Some-clause-answer g c =
    let spot = rw (c.key_of.ensures.kind, c.key_of.ensures.id) at c.in_ok-spot.ensures.answer in
    let loads = load_only _ _ _ _ c.in_ok-free.ensures.answer in
    reserved_some _ _ _ _ _ _ _ _ _ _ _ _ loads spot _ _ _ c.in-Some.is
    c.in_ok-refused-in-Some.ensures.answer

pub returns-in_ok-refused-in-Some-clause-from : goal.returns-in_ok-refused-in-Some-clause-from
returns-in_ok-refused-in-Some-clause-from g c =
    let spot = rw (c.key_of.ensures.kind, c.key_of.ensures.id) at c.in_ok-spot.ensures.answer in
    let loads = load_only _ _ _ _ c.in_ok-free.ensures.answer in
    rw c.word.ensures (some_leaves _ _ _ _ _ _ _ _ _ _ _ _ loads spot _ _ _ c.in-Some.is
    c.in_ok-refused-in-Some.ensures.answer c.in_ok-refused-in-Some.ensures.block)

pub returns-in-Some-added-clause-answer : goal.returns-in-Some-added-clause-answer
returns-in-Some-added-clause-answer g c =
    let spot = rw (c.key_of.ensures.kind, c.key_of.ensures.id) at c.in_ok-spot.ensures.answer in
    let loads = load_only _ _ _ _ c.in_ok-free.ensures.answer in
    reserved_none _ _ _ _ _ _ _ _ _ _ _ _ loads spot _ _
    (rw c.in-Some-added.is at c.in_ok-added-in-None.ensures.answer)

pub returns-in-Some-added-clause-from : goal.returns-in-Some-added-clause-from
returns-in-Some-added-clause-from g c =
    let spot = rw (c.key_of.ensures.kind, c.key_of.ensures.id) at c.in_ok-spot.ensures.answer in
    let loads = load_only _ _ _ _ c.in_ok-free.ensures.answer in
    rw c.word-in-None.ensures (none_leaves _ _ _ _ _ _ _ _ _ _ _ _ loads spot _ _ _
    (rw c.in-Some-added.is at c.in_ok-added-in-None.ensures.answer)
    (rw c.in-Some-added.is at c.in_ok-added-in-None.ensures.block))
