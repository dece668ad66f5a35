use Rattle.vac_model.proofs.Ids.{id_high}
use Rattle.vac_tasks.specs.Trips.{ChoiceIsAt, first_key}
use Rattle.vac_tasks.specs.Entries.{CustomerIsAt}
use Rattle.vac_tasks.specs.Starts.{HasStart}
use Rattle.vac_tasks.proofs.Booking.{reserved_none, reserved_missing, reserve_range, reserved, reserved_stays}
use Rattle.vac_tasks.proofs.Booking.{blocks_same, turn_same, has_later, has_price, reserved_turn}
use Rattle.vac_tasks.proofs.trip.reserve_choice.Goals as goal

pub returns-in_default-clause-answer : goal.returns-in_default-clause-answer
returns-in_default-clause-answer g c = reserved_none _ _ _ _ _ _ c.in_default.is

pub returns-in_default-clause-blocks : goal.returns-in_default-clause-blocks
returns-in_default-clause-blocks g c = blocks_same _ _

pub returns-in_default-clause-from : goal.returns-in_default-clause-from
returns-in_default-clause-from g c = turn_same _ _ _ _ _ _ c.requires.owner c.requires.from

pub returns-in_default-block-clause-answer : goal.returns-in_default-block-clause-answer
returns-in_default-block-clause-answer g c = reserved_missing _ _ _ _ _ _ _ c.in-Some.is c.in_default-block.is

pub returns-in_default-block-clause-blocks : goal.returns-in_default-block-clause-blocks
returns-in_default-block-clause-blocks g c = blocks_same _ _

pub returns-in_default-block-clause-from : goal.returns-in_default-block-clause-from
returns-in_default-block-clause-from g c = turn_same _ _ _ _ _ _ c.requires.owner c.requires.from

pub reserve_from-requires-clause-price : goal.reserve_from-requires-clause-price
reserve_from-requires-clause-price g c =
    let known : ChoiceIsAt (g.M.TxRead.view c.args.memory.now) c.args.kind c.in-Some.chosen =
    rw c.in-Some.is at c.requires.known in
    has_price _ _ _ c.requires.state known

pub reserve_from-requires-clause-from : goal.reserve_from-requires-clause-from
reserve_from-requires-clause-from g c =
    let start : HasStart (g.M.TxRead.view c.args.memory.now) c.in-Some-block.owner c.args.from.now.0
    (first_key c.args.kind) = rw c.in-Some-block.is at c.requires.from in
    has_later _ _ _ _ _ start

pub returns-clause-answer : goal.returns-clause-answer
returns-clause-answer g c =
    let owner : CustomerIsAt (g.M.TxRead.view c.args.memory.now) c.args.who.now.customer c.in-Some-block.owner =
    rw c.in-Some-block.is at c.requires.owner in
    let known : ChoiceIsAt (g.M.TxRead.view c.args.memory.now) c.args.kind c.in-Some.chosen =
    rw c.in-Some.is at c.requires.known in
    reserved _ _ _ _ _ _ _ _ _ _ c.in-Some-block.is c.in-Some.is owner.some known.at.some
    (id_high c.in-Some.chosen.id known.id)
    (reserve_range c.args.who.now.customer c.args.kind c.in-Some.chosen.id c.requires.range known.id)
    c.in_ok-refused.ensures.answer

pub returns-clause-blocks : goal.returns-clause-blocks
returns-clause-blocks g c =
    let owner : CustomerIsAt (g.M.TxRead.view c.args.memory.now) c.args.who.now.customer c.in-Some-block.owner =
    rw c.in-Some-block.is at c.requires.owner in
    let known : ChoiceIsAt (g.M.TxRead.view c.args.memory.now) c.args.kind c.in-Some.chosen =
    rw c.in-Some.is at c.requires.known in
    reserved_stays _ _ _ _ _ _ _ _ _ _ c.in-Some-block.is c.in-Some.is owner.some known.at.some
    (id_high c.in-Some.chosen.id known.id) c.in_ok-refused.ensures.answer

pub returns-clause-from : goal.returns-clause-from
returns-clause-from g c =
    let owner : CustomerIsAt (g.M.TxRead.view c.args.memory.now) c.args.who.now.customer c.in-Some-block.owner =
    rw c.in-Some-block.is at c.requires.owner in
    let known : ChoiceIsAt (g.M.TxRead.view c.args.memory.now) c.args.kind c.in-Some.chosen =
    rw c.in-Some.is at c.requires.known in
    reserved_turn _ _ _ _ _ _ _ _ _ _ c.in-Some-block.is c.in-Some.is owner.some known.at.some
    (id_high c.in-Some.chosen.id known.id) c.in_ok-refused.ensures.from
