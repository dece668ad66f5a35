use Rattle.load_run.specs.Keeping.{contents}
use Rattle.load_run.specs.Slots.{shown}
use Rattle.load_run.proofs.Pairs.{kept_promise, worked_through}
use Rattle.load_run.proofs.plan.fn.Plan.run_round.scope.Goals as goal

pub returns : goal.returns
returns g c = (
  record {
    first = kept_promise g.D.Draws.leads (shown (contents g.K.Recorder.notes g.K.Recorder.traced g.K.Recorder.latest))
        _ _ _ _
        c.in_ok-first.ensures.promise
        c.join-first.ensures;
    others = worked_through g.D.Draws.leads
        (shown (contents g.K.Recorder.notes g.K.Recorder.traced g.K.Recorder.latest)) _
        (λ h. h.promise) _ _ _ c.in_ok-started.ensures.promises c.join_all-others.ensures;
  },
  tt,
)
