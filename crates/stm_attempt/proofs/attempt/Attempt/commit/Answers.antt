use Rattle.std.proofs.Common.{sym, subst, ℕ}
use Rattle.stm_region.specs.Shown.{ClientShown}
use Rattle.stm_core.specs.Guards.{stripe_of}
use Rattle.stm_attempt.specs.Conflicts.{IsReadConflict}
use Rattle.stm_attempt.proofs.attempt.Attempt.commit.Goals as goal

pub commit_or_stop-requires-clause-ready : goal.commit_or_stop-requires-clause-ready
commit_or_stop-requires-clause-ready g c = record {
  running = c.args.self.running c.requires.running;
  known = c.args.self.known;
  inside = c.args.self.inside c.requires.running;
  reads = c.args.self.logged c.requires.running;
  placed = c.args.self.placed c.requires.running;
  allowed = c.requires.lawful;
}

pub returns-clause-met : goal.returns-clause-met
returns-clause-met g c = λ conflict e.
    subst (λ (s : ClientShown). ∥ ((address : ℕ) × IsReadConflict
    (stripe_of c.args.self.region.now.stripes) address conflict s.value) ∥₁)
    (sym (c.commit_or_stop.ensures.again conflict e).1)
    ((c.args.self.running c.requires.running).shown conflict e)

pub returns-clause-own : goal.returns-clause-own
returns-clause-own g c = c.commit_or_stop.ensures.own

pub returns-clause-free_handed : goal.returns-clause-free_handed
returns-clause-free_handed g c = c.commit_or_stop.ensures.free_handed

pub returns-clause-again : goal.returns-clause-again
returns-clause-again g c = c.commit_or_stop.ensures.again

pub returns-clause-ok : goal.returns-clause-ok
returns-clause-ok g c = c.commit_or_stop.ensures.ok

pub returns-clause-version : goal.returns-clause-version
returns-clause-version g c = c.commit_or_stop.ensures.version

pub returns-clause-decides : goal.returns-clause-decides
returns-clause-decides g c = c.commit_or_stop.ensures.decides

pub returns-clause-refused : goal.returns-clause-refused
returns-clause-refused g c = c.commit_or_stop.ensures.refused

pub returns-clause-logs : goal.returns-clause-logs
returns-clause-logs g c = c.commit_or_stop.ensures.logs
