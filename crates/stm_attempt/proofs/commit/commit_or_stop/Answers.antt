use Rattle.std.proofs.Common.{sym, subst, ap, ◌∙◌, IfOk, arith}
use Rattle.stm_logs.specs.Log.{log_pairs}
use Rattle.stm_core.specs.Event.{finish}
use Rattle.stm_core.proofs.Conditions.{may_act_so}
use Rattle.stm_region.specs.Shown.{ClientShown, bounds}
use Rattle.stm_core.specs.Guards.{stripe_of}
use Rattle.stm_attempt.specs.Committing.{HasCommitted, IsCommitResult, WasDecided, commit_record}
use Rattle.stm_attempt.proofs.Parts.{no_pairs, finished_by, has_finished, met_none, not_answered, not_lone, not_refused}
use Rattle.stm_attempt.proofs.commit.commit_or_stop.Goals as goal
use Rattle.stm_attempt.proofs.commit.commit_or_stop.Goals.{in-Some, in-None+then-len-eq0, in-None+else-len-eq0}

pub finish-requires-clause-allowed : goal.finish-requires-clause-allowed
finish-requires-clause-allowed g c =
    let none = no_pairs c.args.logs.now.writes (sym c.len.ensures ∙ c.if-len-eq0.true) in (
      c.requires.ready.running.begun.out,
      may_act_so (stripe_of c.args.region.now.stripes) g.L.Law.lawful
          (bounds c.args.region.now) c.args.client.now.value.attempt (finish (g.T.Tag.numbers c.args.tag.now)) (
            (c.requires.ready.running.runs c.in-None.is, c.requires.ready.running.begun.unversioned),
            c.requires.ready.running.begun.free,
            subst (λ ps. g.L.Law.lawful (g.T.Tag.numbers c.args.tag.now) c.args.client.now.value.attempt.reads ps) none
                (c.requires.ready.allowed c.in-None.is),
          ),
    )

pub returns-else-is_err-clause-ok : goal.returns-else-is_err-clause-ok
returns-else-is_err-clause-ok g c =
    let tag = g.T.Tag.numbers c.args.tag.now in
    let pairs = log_pairs c.args.logs.now.writes in
    let v = c.args.client.now.value in
    elim c.match-end.branch [
      | in-Some w ↦ subst (λ r. IfOk r (λ version. HasCommitted c.args.region.now tag pairs v
          c.match-end.client.value version)) (sym w.answer-is) tt
      | in-None+then-len-eq0 w ↦ subst (λ r. IfOk r (λ version. HasCommitted c.args.region.now tag pairs v
          c.match-end.client.value version)) (sym w.answer-is)
          (has_finished c.args.region.now tag pairs v c.match-end.client.value c.args.end.rv w.finish.ensures.client.0
          (no_pairs c.args.logs.now.writes (sym w.len.ensures ∙ w.if-len-eq0.true)) c.requires.ready.running.begun
          (ap (λ (s : ClientShown). s.value) w.client-is ∙ ap (λ (s : ClientShown). s.value) w.finish.ensures.client.1))
      | in-None+else-len-eq0 w ↦ subst (λ r. IfOk r (λ version. HasCommitted c.args.region.now tag pairs v
          c.match-end.client.value version)) (sym w.answer-is)
          (subst (λ (s : ClientShown). IfOk w.commit_writes.result
          (λ version. HasCommitted c.args.region.now tag pairs v s.value version))
          (sym w.client-is) w.commit_writes.ensures.ok)
    ]

pub returns-then-is_err-clause-own : goal.returns-then-is_err-clause-own
returns-then-is_err-clause-own g c =
    elim c.match-end.branch [
      | in-Some w ↦ ap (λ (s : ClientShown). s.table) w.client-is
      | in-None+then-len-eq0 w ↦ ap (λ (s : ClientShown). s.table) (w.client-is ∙ w.finish.ensures.client.1)
      | in-None+else-len-eq0 w ↦ ap (λ (s : ClientShown). s.table) w.client-is ∙ w.commit_writes.ensures.own
    ]

pub returns-else-is_err-clause-own : goal.returns-else-is_err-clause-own
returns-else-is_err-clause-own g c =
    elim c.match-end.branch [
      | in-Some w ↦ ap (λ (s : ClientShown). s.table) w.client-is
      | in-None+then-len-eq0 w ↦ ap (λ (s : ClientShown). s.table) (w.client-is ∙ w.finish.ensures.client.1)
      | in-None+else-len-eq0 w ↦ ap (λ (s : ClientShown). s.table) w.client-is ∙ w.commit_writes.ensures.own
    ]

pub returns-then-is_err-clause-ok : goal.returns-then-is_err-clause-ok
returns-then-is_err-clause-ok g c = not_answered c.match-end.answer _ (sym c.if-is_err.ensures.value)

pub returns-then-is_err-clause-version : goal.returns-then-is_err-clause-version
returns-then-is_err-clause-version g c =
    elim c.match-end.branch [
      | in-Some w ↦ subst (λ r. IsCommitResult c.args.region.now c.args.client.now.value r) (sym w.answer-is)
          (not_lone c.args.region.now c.args.client.now.value _ tt
          (λ lone. met_none _ _ w.in-Some.is (c.requires.ready.running.lone lone)))
      | in-None+then-len-eq0 w ↦ subst (λ r. IsCommitResult c.args.region.now c.args.client.now.value r)
          (sym w.answer-is) (record {
            range = c.requires.ready.known;
            next = λ lone. omega (arith, c.requires.ready.running.begun.begun_at);
            lone = λ lone. tt;
          })
      | in-None+else-len-eq0 w ↦ subst (λ r. IsCommitResult c.args.region.now c.args.client.now.value r)
          (sym w.answer-is) w.commit_writes.ensures.version
    ]

pub returns-else-is_err-clause-version : goal.returns-else-is_err-clause-version
returns-else-is_err-clause-version g c =
    elim c.match-end.branch [
      | in-Some w ↦ subst (λ r. IsCommitResult c.args.region.now c.args.client.now.value r) (sym w.answer-is)
          (not_lone c.args.region.now c.args.client.now.value _ tt
          (λ lone. met_none _ _ w.in-Some.is (c.requires.ready.running.lone lone)))
      | in-None+then-len-eq0 w ↦ subst (λ r. IsCommitResult c.args.region.now c.args.client.now.value r)
          (sym w.answer-is) (record {
            range = c.requires.ready.known;
            next = λ lone. omega (arith, c.requires.ready.running.begun.begun_at);
            lone = λ lone. tt;
          })
      | in-None+else-len-eq0 w ↦ subst (λ r. IsCommitResult c.args.region.now c.args.client.now.value r)
          (sym w.answer-is) w.commit_writes.ensures.version
    ]

pub returns-then-is_err-clause-decides : goal.returns-then-is_err-clause-decides
returns-then-is_err-clause-decides g c = not_answered c.match-end.answer _ (sym c.if-is_err.ensures.value)

pub returns-else-is_err-clause-refused : goal.returns-else-is_err-clause-refused
returns-else-is_err-clause-refused g c = λ _. not_refused c.match-end.answer _ (sym c.if-is_err.ensures.value)

pub returns-else-is_err-clause-logs : goal.returns-else-is_err-clause-logs
returns-else-is_err-clause-logs g c = not_refused c.match-end.answer _ (sym c.if-is_err.ensures.value)

pub returns-else-is_err-clause-decides : goal.returns-else-is_err-clause-decides
returns-else-is_err-clause-decides g c =
    let region = c.args.region.now in
    let tag = g.T.Tag.numbers c.args.tag.now in
    let pairs = log_pairs c.args.logs.now.writes in
    let v = c.args.client.now.value in
    elim c.match-end.branch [
      | in-Some w ↦ subst (λ r. IfOk r (λ version. WasDecided g.L.Law.fits g.L.Law.lawful region
          (commit_record region tag v pairs version) c.match-end.client.value)) (sym w.answer-is) tt
      | in-None+then-len-eq0 w ↦ subst (λ r. IfOk r (λ version. WasDecided g.L.Law.fits g.L.Law.lawful region
          (commit_record region tag v pairs version) c.match-end.client.value)) (sym w.answer-is)
          (finished_by g.L.Law.fits g.L.Law.lawful region tag pairs w.finish.ensures.after.0 c.args.end.rv v
          w.finish.new.client.value c.match-end.client.value
          (no_pairs c.args.logs.now.writes (sym w.len.ensures ∙ w.if-len-eq0.true)) w.finish.ensures.after.2
          (ap (λ (s : ClientShown). s.value) w.client-is))
      | in-None+else-len-eq0 w ↦ subst (λ r. IfOk r (λ version. WasDecided g.L.Law.fits g.L.Law.lawful region
          (commit_record region tag v pairs version) c.match-end.client.value)) (sym w.answer-is)
          (subst (λ (s : ClientShown). IfOk w.commit_writes.result
          (λ version. WasDecided g.L.Law.fits g.L.Law.lawful region
          (commit_record region tag v pairs version) s.value)) (sym w.client-is) w.commit_writes.ensures.decides)
    ]
