use Rattle.judge_reservations.specs.Largest.{MayBeWholeEach}
use Rattle.judge_reservations.specs.Lines.{calls_of}
use Rattle.judge_reservations.proofs.Larger.{WholeUpTo}
use Rattle.judge_reservations.proofs.chosen.whole_customers.Given as goal

abbrev pub invariant-customers : goal.invariant-customers
invariant-customers l = WholeUpTo l.customers l.items (calls_of l.lines) l.at l.whole.items
    × MayBeWholeEach l.customers l.items (calls_of l.lines) l.whole.items
