use Rattle.std.proofs.Common.{arith, ap, ◌∙◌, List, length}
use Rattle.vac_audit.specs.Ran.{ItemsRan}
use Rattle.vac_audit.specs.declared.notes.NotedItem.{NotedItem}
use Rattle.vac_audit.proofs.Running.{handed}
use Rattle.vac_audit.proofs.Walks.{unmarked_few, items_first, items_second, items_third, items_done}
use Rattle.vac_audit.proofs.audit.walk_items.Goals as goal

pub walk_table-requires-clause-room : goal.walk_table-requires-clause-room
walk_table-requires-clause-room c = omega (
  arith,
  unmarked_few c.args.reached.now.items,
  ap (λ (z : List NotedItem). length z) c.requires.blank.items,
  c.requires.marked.few,
)

pub returns-in_err-cars-clause-ran : goal.returns-in_err-cars-clause-ran
returns-in_err-cars-clause-ran c = handed (λ r. ItemsRan c.args.words.now c.args.reached.now.items
    c.walk_table.new.reached.items c.walk_table.new.notes r) c.from_residual.result _ c.from_residual.ensures.1
    (items_first c.args.words.now c.args.reached.now.items c.walk_table.new.reached.items c.args.notes.now
    c.walk_table.new.notes _ c.in_err-cars.ensures.ran)

pub returns-in_err-flights-clause-ran : goal.returns-in_err-flights-clause-ran
returns-in_err-flights-clause-ran c = handed (λ r. ItemsRan c.args.words.now c.args.reached.now.items
    c.walk_table-2.new.reached.items c.walk_table-2.new.notes r) c.from_residual-in_err-flights.result _
    c.from_residual-in_err-flights.ensures.1
    (items_second c.args.words.now c.args.reached.now.items c.walk_table.new.reached.items
    c.walk_table-2.new.reached.items c.args.notes.now c.walk_table.new.notes c.walk_table-2.new.notes
    c.in_ok-cars.cars _ c.in_ok-cars.ensures.ran c.in_ok-cars.ensures.size c.in_err-flights.ensures.ran)

pub returns-in_err-rooms-clause-ran : goal.returns-in_err-rooms-clause-ran
returns-in_err-rooms-clause-ran c = handed (λ r. ItemsRan c.args.words.now c.args.reached.now.items
    c.walk_table-3.new.reached.items c.walk_table-3.new.notes r) c.from_residual-in_err-rooms.result _
    c.from_residual-in_err-rooms.ensures.1
    (items_third c.args.words.now c.args.reached.now.items c.walk_table.new.reached.items
    c.walk_table-2.new.reached.items c.walk_table-3.new.reached.items c.args.notes.now c.walk_table.new.notes
    c.walk_table-2.new.notes c.walk_table-3.new.notes
    c.in_ok-cars.cars c.in_ok-flights.flights _ c.in_ok-cars.ensures.ran c.in_ok-cars.ensures.size
    c.in_ok-flights.ensures.ran (c.in_ok-flights.ensures.size ∙ c.in_ok-cars.ensures.size)
    c.in_err-rooms.ensures.ran)

pub returns-clause-ran : goal.returns-clause-ran
returns-clause-ran c = items_done c.args.words.now c.args.reached.now.items c.walk_table.new.reached.items
    c.walk_table-2.new.reached.items c.walk_table-3.new.reached.items c.args.notes.now c.walk_table.new.notes
    c.walk_table-2.new.notes c.walk_table-3.new.notes _
    c.requires.blank c.in_ok-cars.ensures.ran c.in_ok-cars.ensures.size c.in_ok-flights.ensures.ran
    (c.in_ok-flights.ensures.size ∙ c.in_ok-cars.ensures.size) c.in_ok-rooms.ensures.ran
