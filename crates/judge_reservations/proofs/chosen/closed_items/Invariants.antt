use Rattle.judge_reservations.specs.Largest.{MayCloseEach}
use Rattle.judge_reservations.specs.Lines.{calls_of}
use Rattle.judge_reservations.proofs.Larger.{ClosedUpTo}
use Rattle.judge_reservations.proofs.chosen.closed_items.Given as goal

abbrev pub invariant-items : goal.invariant-items
invariant-items l = ClosedUpTo l.customers l.items (calls_of l.lines) l.at l.closed.items
    × MayCloseEach l.customers l.items (calls_of l.lines) l.closed.items
