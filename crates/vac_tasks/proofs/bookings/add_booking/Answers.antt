use Rattle.vac_tasks.proofs.Held.{pool_held}
use Rattle.vac_tasks.proofs.Extending.{price_small, sum_small}
use Rattle.vac_tasks.proofs.AddingBookings.{no_block, block_node, spot_room, can_make, add_done, add_stays}
use Rattle.vac_tasks.proofs.Small.{reserve_small}
use Rattle.vac_tasks.proofs.bookings.add_booking.Goals as goal

pub take_refilling-requires : goal.take_refilling-requires
take_refilling-requires g c = record { pool = pool_held _ c.requires.ready.serve.state }

pub returns-in_default-clause-answer : goal.returns-in_default-clause-answer
returns-in_default-clause-answer g c = no_block _ c.args.who.customer c.args.who.owner c.args.what.kind c.args.what.id _
    _ _ c.args.spot
    c.requires.ready.offered c.requires.missing _ (rw c.in_default.is at c.in_ok-block.ensures.answer)

pub book_at-requires-clause-block : goal.book_at-requires-clause-block
book_at-requires-clause-block g c = block_node _ c.args.who.customer c.args.who.owner c.args.what.kind c.args.what.id _
    _ _ c.args.spot
    c.requires.ready.offered c.requires.missing _ _ _ (rw c.in-Some.is at c.in_ok-block.ensures.answer)
    c.requires.ready.serve.state

pub book_at-requires-clause-link : goal.book_at-requires-clause-link
book_at-requires-clause-link g c = spot_room _ c.args.who.customer c.args.who.owner c.args.what.kind c.args.what.id _ _
    _ c.args.spot
    c.requires.ready.offered c.requires.missing _ _ _ (rw c.in-Some.is at c.in_ok-block.ensures.answer) c.requires.spot

pub book_at-requires-clause-sum : goal.book_at-requires-clause-sum
book_at-requires-clause-sum g c =
    let fits = reserve_small c.args.who.customer c.args.what.kind c.args.what.id c.args.offer.num
    c.requires.ready.serve.range in
    sum_small _ _ fits.1 (price_small _ _ _ _ _ _ c.requires.ready.serve.state c.requires.ready.serve.item
    c.requires.ready.offered
    (g.met.M.TxRead.seen c.args.memory.now))

pub make_of-requires-clause-units : goal.make_of-requires-clause-units
make_of-requires-clause-units g c =
    let fits = reserve_small c.args.who.customer c.args.what.kind c.args.what.id c.args.offer.num
    c.requires.ready.serve.range in
    can_make _ c.args.who.customer c.args.who.owner c.args.what.kind c.args.what.id _ _ _ c.args.spot
    c.requires.ready.offered
    c.requires.missing _ _ _ (rw c.in-Some.is at c.in_ok-block.ensures.answer) _ c.in_ok-book_at.ensures.answer
    c.requires.ready.serve.state c.requires.ready.serve.customer c.requires.ready.serve.item c.requires.spot
    fits.0

pub returns-clause-answer : goal.returns-clause-answer
returns-clause-answer g c = add_done _ c.args.who.customer c.args.who.owner c.args.what.kind c.args.what.id _ _ _
    c.args.spot
    c.requires.ready.offered c.requires.missing _ _ _ (rw c.in-Some.is at c.in_ok-block.ensures.answer) _
    c.in_ok-book_at.ensures.answer _ c.in_ok-make_of.ensures.answer

pub returns-clause-block : goal.returns-clause-block
returns-clause-block g c = add_stays _ c.args.who.customer c.args.who.owner c.args.what.kind c.args.what.id _ _ _
    c.args.spot
    c.requires.ready.offered c.requires.missing _ _ _ (rw c.in-Some.is at c.in_ok-block.ensures.answer) _
    c.in_ok-book_at.ensures.answer _ c.in_ok-make_of.ensures.answer
