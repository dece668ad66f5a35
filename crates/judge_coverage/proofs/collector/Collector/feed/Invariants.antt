use Rattle.std.proofs.Common.{ℕ, List, length}
use Rattle.judge_coverage.specs.Passing.{HasTaken}
use Rattle.judge_coverage.proofs.Taking.{HasTakenTo}
use Rattle.judge_coverage.proofs.collector.Collector.feed.Given as goal

-- the lines that ended before the rest of the chunk were taken
abbrev pub invariant-lines : goal.invariant-lines
invariant-lines l = (longest : ℕ) (bytes : List ℕ) → HasTaken longest l.initial.self bytes →
    HasTakenTo longest bytes l.chunk l.rest l.self

abbrev pub decreases-lines : goal.decreases-lines
decreases-lines l = length l.rest
