use Rattle.std.proofs.Common.{rules, ◌≡◌, ℕ, subst}
use Rattle.load_run.specs.Attempted.{AreStatistics}
use Rattle.load_run.proofs.Attempting.{effort_both}
use Rattle.load_run.proofs.counts.TaskCounts.plus.Goals as goal

pub invariant_of-result : goal.invariant_of-result
invariant_of-result c =
    let same : c.other.inside.tries ≡ c.self.inside.tries = search rules in
    let other : AreStatistics c.self.inside.tries c.other.inside.outcomes c.other.inside.statistics =
    subst (λ (n : ℕ). AreStatistics n c.other.inside.outcomes c.other.inside.statistics) same c.other.invariant.0 in (
      rw c.plus.ensures (rw c.plus-2.ensures (effort_both c.self.inside.tries c.self.inside.outcomes
          c.other.inside.outcomes
          c.self.inside.statistics c.other.inside.statistics c.self.invariant.0 other)),
      c.self.invariant.1,
    )
