use Rattle.std.proofs.Common.{rules, ◌≡◌, ℕ, subst}
use Rattle.load_run.specs.Attempted.{AreStatistics, no_attempts, with_call}
use Rattle.load_run.specs.Looping.{nothing, counted}
use Rattle.load_run.proofs.Attempting.{effort_counted}
use Rattle.load_run.proofs.counts.TaskCounts.count.Goals as goal

pub invariant_of-self : goal.invariant_of-self
invariant_of-self c =
    let same : c.args.self.now.tries ≡ c.self.inside.tries = search rules in
    let took : AreStatistics c.self.inside.tries (counted c.args.end.now nothing)
    (with_call c.args.statistics.now no_attempts) =
    subst (λ (n : ℕ). AreStatistics n (counted c.args.end.now nothing)
    (with_call c.args.statistics.now no_attempts)) same
    c.requires.took in (
      rw c.count.ensures (rw c.add.ensures (effort_counted c.self.inside.tries c.args.end.now c.self.inside.outcomes
          c.self.inside.statistics c.args.statistics.now c.self.invariant.0 took)),
      c.self.invariant.1,
    )
