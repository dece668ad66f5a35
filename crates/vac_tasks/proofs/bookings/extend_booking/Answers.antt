use Rattle.std.proofs.Common.{arith}
use Rattle.vac_tasks.proofs.Owners.{some_booking}
use Rattle.vac_tasks.proofs.Extending.{price_small, sum_small, units_small, too_many, can_extend, can_make}
use Rattle.vac_tasks.proofs.Extending.{extend_done, extend_stays}
use Rattle.vac_tasks.proofs.Staying.{booking_reads}
use Rattle.vac_tasks.proofs.Small.{reserve_small}
use Rattle.vac_tasks.proofs.bookings.extend_booking.Goals as goal

pub overflow_add-branch : goal.overflow_add-branch
overflow_add-branch g c =
    let fits = reserve_small c.args.who.customer c.args.what.kind c.args.what.id c.args.offer.num
    c.requires.ready.serve.range in
    let l = units_small _ _ _ _ _ _ _ _ _ c.requires.ready.offered
    (some_booking _ _ _ _ c.requires.booking) _ _ c.in_ok-units_at.ensures.answer c.requires.ready.serve.state
    c.requires.ready.serve.customer c.requires.ready.serve.item c.requires.booking
    fits.0
    (g.met.M.TxRead.seen c.units_at.new.memory) in
    omega (arith, l, fits.1)

pub returns-then-branch-offer-gt-MOST_UNITS-clause-answer : goal.returns-then-branch-offer-gt-MOST_UNITS-clause-answer
returns-then-branch-offer-gt-MOST_UNITS-clause-answer g c =
    too_many _ _ _ _ _ _ _ _ _ c.requires.ready.offered (some_booking _ _ _ _ c.requires.booking) _ _
    c.in_ok-units_at.ensures.answer c.if-branch-offer-gt-MOST_UNITS.true

pub book_more-requires-clause-sum : goal.book_more-requires-clause-sum
book_more-requires-clause-sum g c =
    let fits = reserve_small c.args.who.customer c.args.what.kind c.args.what.id c.args.offer.num
    c.requires.ready.serve.range in
    sum_small _ _ fits.1
    (price_small _ _ _ _ _ _ c.requires.ready.serve.state c.requires.ready.serve.item c.requires.ready.offered
    (g.met.M.TxRead.seen c.args.memory.now))

pub book_more-requires-clause-room : goal.book_more-requires-clause-room
book_more-requires-clause-room g c =
    let fits = reserve_small c.args.who.customer c.args.what.kind c.args.what.id c.args.offer.num
    c.requires.ready.serve.range in
    can_extend _ _ _ _ _ _ _ _ _ c.requires.ready.offered (some_booking _ _ _ _ c.requires.booking) _ _
    c.in_ok-units_at.ensures.answer c.requires.ready.serve.state c.requires.ready.serve.customer
    c.requires.ready.serve.item c.requires.booking
    fits.0 fits.1
    (price_small _ _ _ _ _ _ c.requires.ready.serve.state c.requires.ready.serve.item c.requires.ready.offered
    (g.met.M.TxRead.seen c.args.memory.now))

pub make_of-requires-clause-units : goal.make_of-requires-clause-units
make_of-requires-clause-units g c =
    let fits = reserve_small c.args.who.customer c.args.what.kind c.args.what.id c.args.offer.num
    c.requires.ready.serve.range in
    can_make _ _ _ _ _ _ _ _ _ c.requires.ready.offered (some_booking _ _ _ _ c.requires.booking) _ _
    c.in_ok-units_at.ensures.answer _ c.in_ok-book_more.ensures.answer c.requires.ready.serve.state
    c.requires.ready.serve.customer
    c.requires.ready.serve.item c.requires.booking fits.0

pub returns-clause-answer : goal.returns-clause-answer
returns-clause-answer g c =
    extend_done _ _ _ _ _ _ _ _ _ c.requires.ready.offered (some_booking _ _ _ _ c.requires.booking) _ _
    c.in_ok-units_at.ensures.answer _ c.in_ok-book_more.ensures.answer
    _ c.if-branch-offer-gt-MOST_UNITS.false c.in_ok-make_of.ensures.answer

pub returns-then-branch-offer-gt-MOST_UNITS-clause-block : goal.returns-then-branch-offer-gt-MOST_UNITS-clause-block
returns-then-branch-offer-gt-MOST_UNITS-clause-block g c =
    let l = c.in_ok-units_at.ensures.answer in
    booking_reads _ _ _ _ _ _ _ _ (some_booking _ _ _ _ c.requires.booking) c.requires.booking.inside.1
    (record { kept = l.kept; writes = l.writes })

pub returns-clause-block : goal.returns-clause-block
returns-clause-block g c =
    extend_stays _ _ _ _ _ _ _ _ _ c.requires.ready.offered (some_booking _ _ _ _ c.requires.booking) _ _
    c.in_ok-units_at.ensures.answer _ c.in_ok-book_more.ensures.answer
    _ c.in_ok-make_of.ensures.answer c.requires.booking.inside.1
