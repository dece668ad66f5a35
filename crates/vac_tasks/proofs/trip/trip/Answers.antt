use Rattle.std.proofs.Common.{sym}
use Rattle.vac_tasks.proofs.Held.{held_on}
use Rattle.vac_tasks.proofs.Parts.{if_ok}
use Rattle.vac_tasks.proofs.Booking.{choices_found, tripped, tripped_none}
use Rattle.vac_tasks.proofs.trip.trip.Goals as goal

pub book_choices-requires-clause-state : goal.book_choices-requires-clause-state
book_choices-requires-clause-state g c = held_on _ _ c.in_ok-choices.ensures.answer.reads c.requires.state

pub book_choices-requires-clause-known : goal.book_choices-requires-clause-known
book_choices-requires-clause-known g c = choices_found _ _ c.in_ok-choices.ensures.answer.known

pub returns-then-are_any-clause-answer : goal.returns-then-are_any-clause-answer
returns-then-are_any-clause-answer g c =
    if_ok _ _ _ (λ r runs. tripped _ _ _ _ c.args.asks.now c.in_ok-choices.choices r c.in_ok-choices.ensures.answer
    (sym c.if-are_any.ensures) runs) c.book_choices.ensures.answer

pub returns-clause-answer : goal.returns-clause-answer
returns-clause-answer g c = tripped_none _ _ _ c.args.asks.now c.in_ok-choices.choices c.in_ok-choices.ensures.answer
    (sym c.if-are_any.ensures)
