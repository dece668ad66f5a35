use Rattle.std.proofs.Common.{sym, subst}
use Rattle.vac_model.specs.declared.items.Kind.TheVariants.{Car, Flight, Room}
use Rattle.vac_model.proofs.Choices.{HasId, choice_id}
use Rattle.vac_sequential.proofs.tables.Tables.trip.Goals as goal

pub book_choices-requires-clause-car : goal.book_choices-requires-clause-car
book_choices-requires-clause-car c = subst HasId (sym c.choice-car.ensures)
    (choice_id c.args.self.now Car c.args.asks.now c.requires.asks)

pub book_choices-requires-clause-flight : goal.book_choices-requires-clause-flight
book_choices-requires-clause-flight c = subst HasId (sym c.choice-flight.ensures)
    (choice_id c.args.self.now Flight c.args.asks.now c.requires.asks)

pub book_choices-requires-clause-room : goal.book_choices-requires-clause-room
book_choices-requires-clause-room c = subst HasId (sym c.choice-room.ensures)
    (choice_id c.args.self.now Room c.args.asks.now c.requires.asks)
