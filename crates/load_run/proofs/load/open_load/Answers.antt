use Rattle.std.proofs.Common.{rules, inl, refl, ap, subst, sym, ◌≡◌, ◌∙◌, List, [], ◌++◌, arith}
use Rattle.stm_core.specs.Client.{Record, Aborted, all_aborted}
use Rattle.vac_manager.specs.Called.{ClientShown, CallerShown}
use Rattle.load_tasks.specs.Tasks.{opening}
use Rattle.load_run.specs.Keeping.{HasKeptAdded, AreKept, contents}
use Rattle.load_run.specs.Opening.{RanIn, StoppedIn, IsAnswered}
use Rattle.load_run.proofs.Eras.{opened_in}
use Rattle.load_run.proofs.Loads.{was_stopped}
use Rattle.load_run.proofs.Notes.{kept_all}
use Rattle.load_run.proofs.load.open_load.Goals as goal

pub returns-clause-alone : goal.returns-clause-alone
returns-clause-alone g c =
    let after = c.open_kept.new.caller in
    let ran = subst (λ (y : CallerShown). RanIn g.D.Draws.leads (opening c.args.settings.now) y after
    c.args.opening.now c.open_kept.new.draws) c.caller-caller.ensures c.in_default-open_kept.ensures.opened.asked.ran in
    record {
      own = search rules;
      alone = search rules;
      era = rw c.into_user-client.ensures.user (opened_in g.D.Draws.leads c.in-Ok.manager.renewal _
          c.in-Ok.client.value after.user.value c.args.opening.now c.open_kept.new.draws
          (ap (λ (x : ClientShown). x.value.records) c.in-Ok.ensures.ok.client_is) ran);
    }

pub returns-clause-opened : goal.returns-clause-opened
returns-clause-opened g c =
    let same = c.caller-caller.ensures in
    let after = c.open_kept.new.caller in
    rw c.into_user-client.ensures.user (record {
      stripes = _;
      opener = c.in-Ok.client;
      opens = c.in-Ok.ensures.ok;
      ran = subst (λ (y : CallerShown). RanIn g.D.Draws.leads (opening c.args.settings.now) y after
          c.args.opening.now c.open_kept.new.draws) same c.in_default-open_kept.ensures.opened.asked.ran;
      answered = subst (λ (y : CallerShown). IsAnswered y.shared after.user.value) same
          c.in_default-open_kept.ensures.opened.ready;
    })

pub returns-clause-kept : goal.returns-clause-kept
returns-clause-kept g c =
    let after = c.open_kept.new.caller.user.value in
    let empty = ap (λ (x : ClientShown). x.value.records) c.in-Ok.ensures.ok.client_is in
    let number : c.in-Ok.client.value.attempt.number ≡ 0 =
    ap (λ (x : ClientShown). x.value.attempt.number) c.in-Ok.ensures.ok.client_is in
    let none : all_aborted c.in-Ok.client.value ≡ [] =
    ap (λ (x : ClientShown). all_aborted x.value) c.in-Ok.ensures.ok.client_is in
    let before = contents g.K.Recorder.notes g.K.Recorder.traced g.K.Recorder.latest c.args.keep.now in
    let now = contents g.K.Recorder.notes g.K.Recorder.traced g.K.Recorder.latest c.open_kept.new.keep in
    let kept : HasKeptAdded c.in-Ok.manager.renewal c.in-Ok.client.value after before now =
    subst (λ (y : CallerShown). HasKeptAdded y.shared.renewal y.user.value after before now) c.caller-caller.ensures
    c.in_default-open_kept.ensures.kept in
    rw c.into_user-client.ensures.user (subst (λ (l : List Aborted). AreKept after.attempt.number after.records l before
    now) (sym (kept.listed ∙ ap (λ (l : List Aborted). l ++ kept.aborts) none))
    (kept_all c.in-Ok.manager.renewal c.in-Ok.client.value after after.attempt.number after.records before now
    (sym (ap (λ (l : List Record). l ++ after.records) empty)) (omega (arith, number)) kept))

pub returns-in_default-clause-stopped : goal.returns-in_default-clause-stopped
returns-in_default-clause-stopped g c = inl refl

pub returns-in-Err-clause-stopped : goal.returns-in-Err-clause-stopped
returns-in-Err-clause-stopped g c =
    let after = c.open_kept.new.caller in
    let stopped = subst (λ (y : CallerShown). StoppedIn g.D.Draws.leads (opening c.args.settings.now) c.in-Err.fault y
    after c.args.opening.now c.open_kept.new.draws) c.caller-caller.ensures c.in-Err.ensures.opened.asked.stopped in
    was_stopped g.D.Draws.leads c.args.settings.now c.in-Err.fault c.args.opening.now c.open_kept.new.draws _
    c.in-Ok.manager c.in-Ok.client after.user.value c.in-Ok.ensures.ok stopped
