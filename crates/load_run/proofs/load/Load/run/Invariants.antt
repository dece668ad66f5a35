use Rattle.std.proofs.Common.{◌≡◌, ◌+◌, ◌*◌}
use Rattle.vac_manager.specs.Called.{CallerShown}
use Rattle.load_run.specs.Keeping.{contents}
use Rattle.load_run.specs.Slots.{shown}
use Rattle.load_run.specs.Load.{RoundHasRun, IsRound}
use Rattle.load_run.proofs.load.Load.run.Given as goal

abbrev pub invariant-rounds : goal.invariant-rounds
invariant-rounds g l = record {
  renewals : l.round.manager.renewal + 1 ≡ l.done;
  size : l.round.manager.size ≡ l.initial.round.manager.size;
  first : l.round.manager.first ≡ l.initial.round.manager.first;
  round : IsRound l.fn.self.plan.settings l.round;
  ran : (y : CallerShown) →
      RoundHasRun g.D.Draws.leads (shown (contents g.K.Recorder.notes g.K.Recorder.traced g.K.Recorder.latest))
      l.fn.self.plan.settings
      l.fn.self.plan.settings.tasks y
      l.fn.self.slots.items
      l.initial.round →
      RoundHasRun g.D.Draws.leads (shown (contents g.K.Recorder.notes g.K.Recorder.traced g.K.Recorder.latest))
      l.fn.self.plan.settings
      (l.done * l.fn.self.plan.settings.tasks) y
      l.fn.self.slots.items l.round;
}
