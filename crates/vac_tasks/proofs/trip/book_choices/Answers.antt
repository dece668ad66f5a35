use Rattle.vac_model.specs.declared.items.Kind.TheVariants.{Car, Flight, Room}
use Rattle.vac_tasks.specs.Trips.{first_key}
use Rattle.vac_tasks.proofs.Booking.{block_fits, picks_keep, ready_joined, ready_next, booked}
use Rattle.vac_tasks.proofs.trip.book_choices.Goals as goal

pub list_head-from-requires : goal.list_head-from-requires
list_head-from-requires g c = block_fits _ _ _ c.in_ok-owner.owner c.requires.state c.in_ok-owner.ensures.answer

pub reserve_choice-requires-clause-state : goal.reserve_choice-requires-clause-state
reserve_choice-requires-clause-state g c =
    let customer = c.args.customer in
    let choices = c.args.choices.now in
    let owner = c.in_ok-owner.owner in
    let ready = ready_joined _ _ customer owner choices c.list_head-from.result.0 (first_key Car)
    c.requires.state c.requires.known
    c.in_ok-owner.ensures.answer c.list_head-from.ensures in
    ready.state

pub reserve_choice-requires-clause-owner : goal.reserve_choice-requires-clause-owner
reserve_choice-requires-clause-owner g c =
    let customer = c.args.customer in
    let choices = c.args.choices.now in
    let owner = c.in_ok-owner.owner in
    let ready = ready_joined _ _ customer owner choices c.list_head-from.result.0 (first_key Car)
    c.requires.state c.requires.known
    c.in_ok-owner.ensures.answer c.list_head-from.ensures in
    ready.owner

pub reserve_choice-requires-clause-known : goal.reserve_choice-requires-clause-known
reserve_choice-requires-clause-known g c =
    let customer = c.args.customer in
    let choices = c.args.choices.now in
    let owner = c.in_ok-owner.owner in
    let ready = ready_joined _ _ customer owner choices c.list_head-from.result.0 (first_key Car)
    c.requires.state c.requires.known
    c.in_ok-owner.ensures.answer c.list_head-from.ensures in
    ready.known.known Car

pub reserve_choice-requires-clause-from : goal.reserve_choice-requires-clause-from
reserve_choice-requires-clause-from g c =
    let customer = c.args.customer in
    let choices = c.args.choices.now in
    let owner = c.in_ok-owner.owner in
    let ready = ready_joined _ _ customer owner choices c.list_head-from.result.0 (first_key Car)
    c.requires.state c.requires.known
    c.in_ok-owner.ensures.answer c.list_head-from.ensures in
    ready.start

pub reserve_choice-requires-2-clause-state : goal.reserve_choice-requires-2-clause-state
reserve_choice-requires-2-clause-state g c =
    let customer = c.args.customer in
    let choices = c.args.choices.now in
    let owner = c.in_ok-owner.owner in
    let ready = ready_joined _ _ customer owner choices c.list_head-from.result.0 (first_key Car)
    c.requires.state c.requires.known
    c.in_ok-owner.ensures.answer c.list_head-from.ensures in
    let car = c.in_ok-car.ensures in
    let ready2 = ready_next _ _ customer owner.block choices Car _ _ _ _ ready car.answer car.blocks car.from
    (picks_keep customer Car choices.car) in
    ready2.state

pub reserve_choice-requires-2-clause-owner : goal.reserve_choice-requires-2-clause-owner
reserve_choice-requires-2-clause-owner g c =
    let customer = c.args.customer in
    let choices = c.args.choices.now in
    let owner = c.in_ok-owner.owner in
    let ready = ready_joined _ _ customer owner choices c.list_head-from.result.0 (first_key Car)
    c.requires.state c.requires.known
    c.in_ok-owner.ensures.answer c.list_head-from.ensures in
    let car = c.in_ok-car.ensures in
    let ready2 = ready_next _ _ customer owner.block choices Car _ _ _ _ ready car.answer car.blocks car.from
    (picks_keep customer Car choices.car) in
    ready2.owner

pub reserve_choice-requires-2-clause-known : goal.reserve_choice-requires-2-clause-known
reserve_choice-requires-2-clause-known g c =
    let customer = c.args.customer in
    let choices = c.args.choices.now in
    let owner = c.in_ok-owner.owner in
    let ready = ready_joined _ _ customer owner choices c.list_head-from.result.0 (first_key Car)
    c.requires.state c.requires.known
    c.in_ok-owner.ensures.answer c.list_head-from.ensures in
    let car = c.in_ok-car.ensures in
    let ready2 = ready_next _ _ customer owner.block choices Car _ _ _ _ ready car.answer car.blocks car.from
    (picks_keep customer Car choices.car) in
    ready2.known.known Flight

pub reserve_choice-requires-2-clause-from : goal.reserve_choice-requires-2-clause-from
reserve_choice-requires-2-clause-from g c =
    let customer = c.args.customer in
    let choices = c.args.choices.now in
    let owner = c.in_ok-owner.owner in
    let ready = ready_joined _ _ customer owner choices c.list_head-from.result.0 (first_key Car)
    c.requires.state c.requires.known
    c.in_ok-owner.ensures.answer c.list_head-from.ensures in
    let car = c.in_ok-car.ensures in
    let ready2 = ready_next _ _ customer owner.block choices Car _ _ _ _ ready car.answer car.blocks car.from
    (picks_keep customer Car choices.car) in
    ready2.start

pub reserve_choice-requires-3-clause-state : goal.reserve_choice-requires-3-clause-state
reserve_choice-requires-3-clause-state g c =
    let customer = c.args.customer in
    let choices = c.args.choices.now in
    let owner = c.in_ok-owner.owner in
    let ready = ready_joined _ _ customer owner choices c.list_head-from.result.0 (first_key Car)
    c.requires.state c.requires.known
    c.in_ok-owner.ensures.answer c.list_head-from.ensures in
    let car = c.in_ok-car.ensures in
    let ready2 = ready_next _ _ customer owner.block choices Car _ _ _ _ ready car.answer car.blocks car.from
    (picks_keep customer Car choices.car) in
    let flight = c.in_ok-flight.ensures in
    let ready3 = ready_next _ _ customer owner.block choices Flight _ _ _ _ ready2 flight.answer flight.blocks
    flight.from (picks_keep customer Flight choices.flight) in
    ready3.state

pub reserve_choice-requires-3-clause-owner : goal.reserve_choice-requires-3-clause-owner
reserve_choice-requires-3-clause-owner g c =
    let customer = c.args.customer in
    let choices = c.args.choices.now in
    let owner = c.in_ok-owner.owner in
    let ready = ready_joined _ _ customer owner choices c.list_head-from.result.0 (first_key Car)
    c.requires.state c.requires.known
    c.in_ok-owner.ensures.answer c.list_head-from.ensures in
    let car = c.in_ok-car.ensures in
    let ready2 = ready_next _ _ customer owner.block choices Car _ _ _ _ ready car.answer car.blocks car.from
    (picks_keep customer Car choices.car) in
    let flight = c.in_ok-flight.ensures in
    let ready3 = ready_next _ _ customer owner.block choices Flight _ _ _ _ ready2 flight.answer flight.blocks
    flight.from (picks_keep customer Flight choices.flight) in
    ready3.owner

pub reserve_choice-requires-3-clause-known : goal.reserve_choice-requires-3-clause-known
reserve_choice-requires-3-clause-known g c =
    let customer = c.args.customer in
    let choices = c.args.choices.now in
    let owner = c.in_ok-owner.owner in
    let ready = ready_joined _ _ customer owner choices c.list_head-from.result.0 (first_key Car)
    c.requires.state c.requires.known
    c.in_ok-owner.ensures.answer c.list_head-from.ensures in
    let car = c.in_ok-car.ensures in
    let ready2 = ready_next _ _ customer owner.block choices Car _ _ _ _ ready car.answer car.blocks car.from
    (picks_keep customer Car choices.car) in
    let flight = c.in_ok-flight.ensures in
    let ready3 = ready_next _ _ customer owner.block choices Flight _ _ _ _ ready2 flight.answer flight.blocks
    flight.from (picks_keep customer Flight choices.flight) in
    ready3.known.known Room

pub reserve_choice-requires-3-clause-from : goal.reserve_choice-requires-3-clause-from
reserve_choice-requires-3-clause-from g c =
    let customer = c.args.customer in
    let choices = c.args.choices.now in
    let owner = c.in_ok-owner.owner in
    let ready = ready_joined _ _ customer owner choices c.list_head-from.result.0 (first_key Car)
    c.requires.state c.requires.known
    c.in_ok-owner.ensures.answer c.list_head-from.ensures in
    let car = c.in_ok-car.ensures in
    let ready2 = ready_next _ _ customer owner.block choices Car _ _ _ _ ready car.answer car.blocks car.from
    (picks_keep customer Car choices.car) in
    let flight = c.in_ok-flight.ensures in
    let ready3 = ready_next _ _ customer owner.block choices Flight _ _ _ _ ready2 flight.answer flight.blocks
    flight.from (picks_keep customer Flight choices.flight) in
    ready3.start

pub returns-clause-answer : goal.returns-clause-answer
returns-clause-answer g c =
    booked _ _ _ _ _ _ c.in_ok-owner.owner c.args.choices.now _ _ _ _ _ _ c.in_ok-owner.ensures.answer
    c.list_head-from.ensures
    c.in_ok-car.ensures.answer c.in_ok-car.ensures.blocks c.in_ok-car.ensures.from
    c.in_ok-flight.ensures.answer c.in_ok-flight.ensures.blocks c.in_ok-flight.ensures.from
    c.in_ok-room.ensures.answer
