use Rattle.std.proofs.Common.{sym, ap, subst, ◌∙◌, ◌+◌, ◌<◌, inl, inr, arith}
use Rattle.stm_attempt.specs.CommitParts.{IsDecided, HasFailedDeciding}
use Rattle.stm_attempt.specs.Committing.{DecidesWith, ticked_record}
use Rattle.stm_region.specs.Shown.{ClientShown}
use Rattle.stm_logs.specs.Log.{log_pairs}
use Rattle.stm_attempt.proofs.Parts.{may_validate, once_is, decided_at_once, decided_after_validation, decided_so}
use Rattle.stm_attempt.proofs.Parts.{made_by_tick, made_by_validation, not_decided, not_lone, handed_on}
use Rattle.stm_attempt.proofs.Parts.{nothing_answered, result_handed_on, failed_ticking, failed_validating}
use Rattle.stm_attempt.proofs.Writing.{log_may_write}
use Rattle.stm_attempt.proofs.commit.decide.Goals as goal
use Rattle.stm_attempt.proofs.commit.decide.Goals.{then-not-decides_at_once+in_default, else-not-decides_at_once}

pub tick-requires-clause-writes : goal.tick-requires-clause-writes
tick-requires-clause-writes g c = log_may_write c.args.region.now c.args.logs.now.writes
    c.args.client.now.value.attempt.held c.requires.logged.placed c.requires.same c.requires.held
    c.requires.logged.written

pub validate_reads-requires-clause-ready : goal.validate_reads-requires-clause-ready
validate_reads-requires-clause-ready g c =
    let once = once_is c.args.client.now.value c.args.logs.now.reads _ _ c.in_ok-version.version c.len.ensures
    c.requires.logged.reads c.requires.ready.begun_at in
    may_validate c.args.region.now (g.T.Tag.numbers c.args.tag.now)
    (log_pairs c.args.logs.now.writes) c.args.client.now.value c.tick.new.client.value c.args.rv
    c.in_ok-version.version c.in_ok-version.ensures.won c.requires.ready
    (omega (arith, c.in_ok-version.ensures.won.later)) (sym once ∙ sym c.decides_at_once.ensures ∙
    c.if-not-decides_at_once.true)

pub returns-clause-ok : goal.returns-clause-ok
returns-clause-ok g c =
    let once = once_is c.args.client.now.value c.args.logs.now.reads _ _ c.in_ok-version.version c.len.ensures
    c.requires.logged.reads c.requires.ready.begun_at in
    let later : c.args.client.now.value.attempt.rv < c.in_ok-version.version = c.in_ok-version.ensures.won.later in
    elim c.if-not-decides_at_once.branch [
      | then-not-decides_at_once+in_default w ↦
          subst (λ (s : ClientShown). IsDecided c.args.region.now (g.T.Tag.numbers c.args.tag.now)
          (log_pairs c.args.logs.now.writes) c.args.client.now.value s.value c.in_ok-version.version)
          (sym w.client-is)
          (decided_after_validation c.args.region.now (g.T.Tag.numbers c.args.tag.now)
          (log_pairs c.args.logs.now.writes) c.args.client.now.value c.tick.new.client.value c.in_ok-version.version
          c.in_ok-version.ensures.won later c.tick.ensures.steps w.validate_reads.new.client.value
          w.in_default.ensures.ok (sym once ∙ sym c.decides_at_once.ensures ∙ w.if-not-decides_at_once.true))
      | else-not-decides_at_once w ↦
          subst (λ (s : ClientShown). IsDecided c.args.region.now (g.T.Tag.numbers c.args.tag.now)
          (log_pairs c.args.logs.now.writes) c.args.client.now.value s.value c.in_ok-version.version)
          (sym w.client-is)
          (decided_at_once c.args.region.now (g.T.Tag.numbers c.args.tag.now)
          (log_pairs c.args.logs.now.writes) c.args.client.now.value c.tick.new.client.value c.in_ok-version.version
          c.in_ok-version.ensures.won later c.tick.ensures.steps (sym once ∙ sym c.decides_at_once.ensures ∙
          w.if-not-decides_at_once.false))
    ]

pub returns-in_err-version-clause-own : goal.returns-in_err-version-clause-own
returns-in_err-version-clause-own g c = c.tick.ensures.own

pub returns-in_err-version-clause-ok : goal.returns-in_err-version-clause-ok
returns-in_err-version-clause-ok g c = nothing_answered c.from_residual.result c.in_err-version.field-0.0 _
    c.from_residual.ensures.1

pub returns-in_err-version-clause-version : goal.returns-in_err-version-clause-version
returns-in_err-version-clause-version g c = result_handed_on c.args.region.now c.args.client.now.value
    c.from_residual.result c.in_err-version.field-0.0 c.from_residual.ensures.1 c.in_err-version.ensures.version

pub returns-in_err-version-clause-decides : goal.returns-in_err-version-clause-decides
returns-in_err-version-clause-decides g c = nothing_answered c.from_residual.result c.in_err-version.field-0.0 _
    c.from_residual.ensures.1

pub returns-in_err-version-clause-failed : goal.returns-in_err-version-clause-failed
returns-in_err-version-clause-failed g c =
    handed_on c.from_residual.result c.in_err-version.field-0.0
    (λ stop. HasFailedDeciding c.args.region.now c.args.logs.now.writes stop c.args.client.now.value
    c.tick.new.client.value) c.from_residual.ensures.1
    (failed_ticking c.args.region.now c.args.logs.now.writes c.in_err-version.field-0.0 c.args.client.now.value
    c.tick.new.client.value c.in_err-version.ensures.failed c.tick.ensures.steps)

pub returns-in-Err-clause-own : goal.returns-in-Err-clause-own
returns-in-Err-clause-own g c = c.validate_reads.ensures.own ∙ c.tick.ensures.own

pub returns-in-Err-clause-version : goal.returns-in-Err-clause-version
returns-in-Err-clause-version g c = not_lone c.args.region.now c.args.client.now.value _ tt (λ lone. (
    let once = once_is c.args.client.now.value c.args.logs.now.reads _ _ c.in_ok-version.version c.len.ensures
    c.requires.logged.reads c.requires.ready.begun_at in
    not_decided c.args.region.now (g.T.Tag.numbers c.args.tag.now)
    (log_pairs c.args.logs.now.writes) c.args.client.now.value c.tick.new.client.value c.in_ok-version.version
    c.in_ok-version.ensures.won (sym once ∙ sym c.decides_at_once.ensures ∙ c.if-not-decides_at_once.true)
    (c.in_ok-version.ensures.won.lone lone)))

pub returns-in-Err-clause-failed : goal.returns-in-Err-clause-failed
returns-in-Err-clause-failed g c =
    let once = once_is c.args.client.now.value c.args.logs.now.reads _ _ c.in_ok-version.version c.len.ensures
    c.requires.logged.reads c.requires.ready.begun_at in
    failed_validating c.args.region.now (g.T.Tag.numbers c.args.tag.now)
    (log_pairs c.args.logs.now.writes) c.args.logs.now.writes c.in-Err.conflict c.args.client.now.value
    c.tick.new.client.value c.validate_reads.new.client.value c.args.rv c.in_ok-version.version
    c.in_ok-version.ensures.won
    c.requires.ready.known (omega (arith, c.in_ok-version.ensures.won.later, c.requires.ready.begun_at))
    (sym once ∙ sym c.decides_at_once.ensures ∙ c.if-not-decides_at_once.true) c.tick.ensures.steps
    c.in-Err.ensures.failed (inr (inl c.in-Err.ensures.shown))

pub returns-clause-own : goal.returns-clause-own
returns-clause-own g c =
    elim c.if-not-decides_at_once.branch [
      | then-not-decides_at_once+in_default w ↦ ap (λ (s : ClientShown). s.table) w.client-is ∙
          w.validate_reads.ensures.own ∙ c.tick.ensures.own
      | else-not-decides_at_once w ↦ ap (λ (s : ClientShown). s.table) w.client-is ∙ c.tick.ensures.own
    ]

pub returns-clause-version : goal.returns-clause-version
returns-clause-version g c = c.in_ok-version.ensures.version

pub returns-clause-decides : goal.returns-clause-decides
returns-clause-decides g c =
    let once = once_is c.args.client.now.value c.args.logs.now.reads _ _ c.in_ok-version.version c.len.ensures
    c.requires.logged.reads c.requires.ready.begun_at in
    let region = c.args.region.now in
    let tag = g.T.Tag.numbers c.args.tag.now in
    let pairs = log_pairs c.args.logs.now.writes in
    let v = c.args.client.now.value in
    let t = c.tick.new.client.value in
    let version = c.in_ok-version.version in
    elim c.if-not-decides_at_once.branch [
      | then-not-decides_at_once+in_default w ↦ subst (λ (s : ClientShown). DecidesWith g.L.Law.fits g.L.Law.lawful
          region (ticked_record region tag v pairs version) s.value) (sym w.client-is)
          (made_by_validation g.L.Law.fits g.L.Law.lawful region tag pairs v t w.validate_reads.new.client.value version
          c.in_ok-version.ensures.won w.in_default.ensures.ok w.in_default.ensures.decides)
      | else-not-decides_at_once w ↦ subst (λ (s : ClientShown). DecidesWith g.L.Law.fits g.L.Law.lawful region
          (ticked_record region tag v pairs version) s.value) (sym w.client-is)
          (let is = decided_so region tag pairs v t version c.in_ok-version.ensures.won
          (sym once ∙ sym c.decides_at_once.ensures ∙ w.if-not-decides_at_once.false) in
          made_by_tick g.L.Law.fits g.L.Law.lawful region tag pairs v t version c.in_ok-version.ensures.won is
          (c.in_ok-version.ensures.decides is))
    ]
