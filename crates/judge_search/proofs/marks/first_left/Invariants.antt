use Rattle.std.proofs.Common.{◌≡◌, ℕ, ◌<◌, true}
use Rattle.judge_search.specs.Marks.{is_made}
use Rattle.judge_search.proofs.marks.first_left.Given as goal

abbrev pub invariant-places : goal.invariant-places
invariant-places l = (place : ℕ) → place < l.place → is_made l.low l.beyond place ≡ true
