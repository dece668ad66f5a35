use Rattle.std.proofs.Common.{ℕ, subst}
use Rattle.cli_main.specs.Statistics.{WritesProgress}
use Rattle.load_run.specs.Keeping.{contents}
use Rattle.cli_main.proofs.LoadEnds.{reports_nothing, reports_lines}
use Rattle.cli_main.proofs.Seeded.{ran_by_seed, not_seeded, handed_on}
use Rattle.cli_main.proofs.telling.run_with_progress.Goals as goal

pub returns-then-not-how : goal.returns-then-not-how
returns-then-not-how g c = record {
  kept = ran_by_seed (contents g.K.Recorder.notes g.K.Recorder.traced g.K.Recorder.latest) c.args.settings.now
      c.args.recorders c.in_ok-load.load _ c.in_ok-load.ensures.arguments c.in_ok-load.ensures.seeded
      (record {
        kept = c.run.ensures.kept;
        statistics = c.run.ensures.statistics;
        refused = c.run.ensures.refused;
      });
  progress = reports_nothing c.args.how.progress c.args.settings.now _;
}

pub returns-in_err-load : goal.returns-in_err-load
returns-in_err-load g c = record {
  kept = handed_on _ _ _ _ _ c.from_residual.ensures.1
      (not_seeded (contents g.K.Recorder.notes g.K.Recorder.traced g.K.Recorder.latest) c.args.settings.now
      c.args.recorders _ c.in_err-load.ensures.arguments c.in_err-load.ensures.refused);
  progress = reports_nothing c.args.how.progress c.args.settings.now _;
}

pub returns-in_err-load-2 : goal.returns-in_err-load-2
returns-in_err-load-2 g c = record {
  kept = handed_on _ _ _ _ _ c.from_residual-in_err-load-2.ensures.1
      (not_seeded (contents g.K.Recorder.notes g.K.Recorder.traced g.K.Recorder.latest) c.args.settings.now
      c.args.recorders _ c.in_err-load-2.ensures.arguments c.in_err-load-2.ensures.refused);
  progress = reports_nothing c.args.how.progress c.args.settings.now _;
}

pub returns : goal.returns
returns g c = record {
  kept = ran_by_seed (contents g.K.Recorder.notes g.K.Recorder.traced g.K.Recorder.latest) c.args.settings.now
      c.args.recorders c.in_ok-load-2.load _ c.in_ok-load-2.ensures.arguments c.in_ok-load-2.ensures.seeded
      c.run_telling.ensures.run;
  progress = reports_lines c.args.how.progress c.args.settings.now _ _ c.if-not-how.false
      (subst (λ (n : ℕ). WritesProgress n (g.E.Write.contents c.args.errors.now)
      (g.E.Write.contents c.run_telling.new.errors)) c.all_tasks.ensures c.run_telling.ensures.lines);
}
