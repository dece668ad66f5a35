use Rattle.std.proofs.Common.{rules, ◌≡◌, refl, sym, ap, subst, ◌∙◌, ◌+◌, ◌*◌, arith, length, take, IfOk}
use Rattle.std.proofs.Common.{IfErr}
use Rattle.std.proofs.lemmas.List.{take_all}
use Rattle.std.specs.Result.{is_ok}
use Rattle.stm_core.specs.Client.{Client}
use Rattle.stm_logs.specs.Log.{log_pairs, log_locks}
use Rattle.stm_logs.proofs.LockLemmas.{locks_few}
use Rattle.stm_region.specs.Shown.{ClientShown}
use Rattle.stm_attempt.specs.Begun.{addresses}
use Rattle.stm_attempt.specs.Committing.{HasCommitted, HasStopped, DecidesWith, WasDecided, commit_record}
use Rattle.stm_attempt.specs.Committing.{IsCommitResult, ticked_record}
use Rattle.stm_attempt.specs.CommitParts.{IsDecided, CanSettle, MayGiveBack, HasSettled, HasFailedDeciding, returned}
use Rattle.stm_attempt.proofs.Parts.{still_ready, some_pairs, map_ok, map_err, ok_of, err_of, record_on, has_committed}
use Rattle.stm_attempt.proofs.Parts.{steps_committed, some_locks, stopped_locking, stopped_deciding, err_not_ok}
use Rattle.stm_attempt.proofs.Parts.{none_answered, none_refused, not_lone, result_on}
use Rattle.stm_attempt.proofs.commit.commit_writes.Goals as goal
use Rattle.stm_attempt.proofs.commit.commit_writes.Goals.{in-Ok, in-Err}

pub decide-answer-requires-clause-ready : goal.decide-answer-requires-clause-ready
decide-answer-requires-clause-ready g c =
    still_ready c.args.region.now c.args.client.now.value c.lock_all.new.client.value c.args.rv c.in-Ok.ensures.all.same
    c.requires.ready

pub decide-answer-requires-clause-logged : goal.decide-answer-requires-clause-logged
decide-answer-requires-clause-logged g c = record {
  reads = c.requires.logged.reads ∙ ap (λ (x : Client). addresses x.attempt.reads) (sym c.in-Ok.ensures.all.same);
  placed = c.requires.logged.placed;
  written = c.requires.logged.written;
}

pub decide-answer-requires-clause-locked : goal.decide-answer-requires-clause-locked
decide-answer-requires-clause-locked g c =
    c.in-Ok.ensures.all.won (let there = some_locks c.args.logs.now.writes c.requires.logged.written
    c.same_addresses.ensures in omega (arith, there, c.in-Ok.ensures.all.count))

pub settle-requires-clause-decided : goal.settle-requires-clause-decided
settle-requires-clause-decided g c =
    let log = c.args.logs.now.writes in
    let l = c.lock_all.new.client.value in
    elim c.match-lock_all.branch [
      | in-Ok w ↦
          (let ok = ok_of w.decide-answer.result (λ version. IsDecided c.args.region.now
          (g.T.Tag.numbers c.args.tag.now) (log_pairs log) l w.decide-answer.new.client.value version)
          (ap is_ok (sym w.answer-is) ∙ sym c.if-is_ok.ensures.value) w.decide-answer.ensures.ok in
          let all = w.in-Ok.ensures.all in
          let whole : take c.lock_all.new.taken (log_locks log) ≡ log_locks log =
          take_all _ _ (omega (arith, all.count)) in
          let able : CanSettle w.decide-answer.new.client.value log = record {
            out = ok.2.same.is_gathered ∙ ap (λ (x : Client). x.is_gathered) all.same ∙ c.requires.ready.out;
            phase = ok.2.phase;
            stored = ok.2.unstored;
            writes = ok.2.writing;
            held = ap addresses ok.2.held ∙ c.lock_all.ensures.held ∙ whole;
          } in
          subst (λ (s : ClientShown). CanSettle s.value log) (sym w.client-is) able)
      | in-Err w ↦ err_not_ok c.match-lock_all.answer _ w.answer-is (sym c.if-is_ok.ensures.value)
    ]

pub give_back_first-requires-clause-able : goal.give_back_first-requires-clause-able
give_back_first-requires-clause-able g c =
    elim c.match-lock_all.branch [
      | in-Ok w ↦
          (let failed = err_of w.decide-answer.result (λ stop. HasFailedDeciding c.args.region.now
          c.args.logs.now.writes stop c.lock_all.new.client.value w.decide-answer.new.client.value)
          (ap is_ok (sym w.answer-is) ∙ sym c.if-is_ok.ensures.value) w.decide-answer.ensures.failed in
          subst (λ (s : ClientShown). MayGiveBack s.value) (sym w.client-is) failed.1.able)
      | in-Err w ↦ subst (λ (s : ClientShown). MayGiveBack s.value) (sym w.client-is) w.in-Err.ensures.failed.able
    ]

pub give_back_first-requires-clause-held : goal.give_back_first-requires-clause-held
give_back_first-requires-clause-held g c =
    elim c.match-lock_all.branch [
      | in-Ok w ↦
          (let failed = err_of w.decide-answer.result (λ stop. HasFailedDeciding c.args.region.now
          c.args.logs.now.writes stop c.lock_all.new.client.value w.decide-answer.new.client.value)
          (ap is_ok (sym w.answer-is) ∙ sym c.if-is_ok.ensures.value) w.decide-answer.ensures.failed in
          ap (λ (s : ClientShown). addresses s.value.attempt.held) w.client-is ∙ ap addresses failed.1.held ∙
          c.lock_all.ensures.held)
      | in-Err w ↦ ap (λ (s : ClientShown). addresses s.value.attempt.held) w.client-is ∙ c.lock_all.ensures.held
    ]

pub give_back_first-requires-clause-few : goal.give_back_first-requires-clause-few
give_back_first-requires-clause-few g c =
    elim c.match-lock_all.branch [
      | in-Ok w ↦ omega (arith, w.in-Ok.ensures.all.count)
      | in-Err w ↦ omega (arith, w.in-Err.ensures.few)
    ]

pub returns-then-is_ok-clause-own : goal.returns-then-is_ok-clause-own
returns-then-is_ok-clause-own g c =
    elim c.match-lock_all.branch [
      | in-Ok w ↦ c.settle.ensures.own ∙ ap (λ (s : ClientShown). s.table) w.client-is ∙ w.decide-answer.ensures.own ∙
          c.lock_all.ensures.own
      | in-Err w ↦ c.settle.ensures.own ∙ ap (λ (s : ClientShown). s.table) w.client-is ∙ c.lock_all.ensures.own
    ]

pub returns-then-is_ok-clause-version : goal.returns-then-is_ok-clause-version
returns-then-is_ok-clause-version g c =
    elim c.match-lock_all.branch [
      | in-Ok w ↦ subst (λ r. IsCommitResult c.args.region.now c.args.client.now.value r) (sym w.answer-is)
          (result_on c.args.region.now c.args.client.now.value c.lock_all.new.client.value _ w.in-Ok.ensures.all.same
          w.decide-answer.ensures.version)
      | in-Err w ↦ err_not_ok c.match-lock_all.answer _ w.answer-is (sym c.if-is_ok.ensures.value)
    ]

pub returns-else-is_ok-clause-version : goal.returns-else-is_ok-clause-version
returns-else-is_ok-clause-version g c =
    elim c.match-lock_all.branch [
      | in-Ok w ↦ subst (λ r. IsCommitResult c.args.region.now c.args.client.now.value r) (sym w.answer-is)
          (result_on c.args.region.now c.args.client.now.value c.lock_all.new.client.value _ w.in-Ok.ensures.all.same
          w.decide-answer.ensures.version)
      | in-Err w ↦ subst (λ r. IsCommitResult c.args.region.now c.args.client.now.value r) (sym w.answer-is)
          (not_lone c.args.region.now c.args.client.now.value _ tt (λ lone.
          (let taken = c.lock_all.ensures.lone lone in let is = w.in-Err.is in search rules)))
    ]

pub returns-then-is_ok-clause-decides : goal.returns-then-is_ok-clause-decides
returns-then-is_ok-clause-decides g c =
    let region = c.args.region.now in
    let tag = g.T.Tag.numbers c.args.tag.now in
    let pairs = log_pairs c.args.logs.now.writes in
    let v = c.args.client.now.value in
    let l = c.lock_all.new.client.value in
    let e = c.settle.new.client.value in
    let some = some_pairs c.args.logs.now.writes c.requires.logged.written in
    elim c.match-lock_all.branch [
      | in-Ok w ↦
          (let d = w.decide-answer.new.client.value in
          let settled : HasSettled d e = subst (λ (s : ClientShown). HasSettled s.value e) w.client-is
          c.settle.ensures.settled in
          subst (λ r. IfOk r (λ version. WasDecided g.L.Law.fits g.L.Law.lawful region
          (commit_record region tag v pairs version) e)) (sym w.answer-is)
          (map_ok w.decide-answer.result (λ version. DecidesWith g.L.Law.fits g.L.Law.lawful region
          (ticked_record region tag l pairs version) d) (λ version. WasDecided g.L.Law.fits g.L.Law.lawful region
          (commit_record region tag v pairs version) e)
          (λ version k. record {
            then = d;
            same = settled.same;
            decides = k.0;
            made = k.1 ∙ record_on region tag pairs v l version w.in-Ok.ensures.all.same some;
          })
          w.decide-answer.ensures.decides))
      | in-Err w ↦ subst (λ r. IfOk r (λ version. WasDecided g.L.Law.fits g.L.Law.lawful region
          (commit_record region tag v pairs version) e)) (sym w.answer-is) tt
    ]

pub returns-then-is_ok-clause-ok : goal.returns-then-is_ok-clause-ok
returns-then-is_ok-clause-ok g c =
    let tag = g.T.Tag.numbers c.args.tag.now in
    let pairs = log_pairs c.args.logs.now.writes in
    let v = c.args.client.now.value in
    let l = c.lock_all.new.client.value in
    let e = c.settle.new.client.value in
    let some = some_pairs c.args.logs.now.writes c.requires.logged.written in
    elim c.match-lock_all.branch [
      | in-Ok w ↦ subst (λ r. IfOk r (λ version. HasCommitted c.args.region.now tag pairs v e version))
          (sym w.answer-is)
          (map_ok w.decide-answer.result (λ version. IsDecided c.args.region.now tag pairs l
          w.decide-answer.new.client.value version) (λ version. HasCommitted c.args.region.now tag pairs v e
          version)
          (λ version decided. has_committed c.args.region.now tag pairs v l w.decide-answer.new.client.value e version
          w.in-Ok.ensures.all.same decided (subst (λ (s : ClientShown). HasSettled s.value e) w.client-is
          c.settle.ensures.settled) some)
          w.decide-answer.ensures.ok)
      | in-Err w ↦ subst (λ r. IfOk r (λ version. HasCommitted c.args.region.now tag pairs v e version))
          (sym w.answer-is) tt
    ]

pub returns-then-is_ok-clause-steps : goal.returns-then-is_ok-clause-steps
returns-then-is_ok-clause-steps g c =
    let tag = g.T.Tag.numbers c.args.tag.now in
    let pairs = log_pairs c.args.logs.now.writes in
    let v = c.args.client.now.value in
    let l = c.lock_all.new.client.value in
    let e = c.settle.new.client.value in
    let some = some_pairs c.args.logs.now.writes c.requires.logged.written in
    elim c.match-lock_all.branch [
      | in-Ok w ↦
          (let ok = ok_of w.decide-answer.result (λ version. IsDecided c.args.region.now tag pairs l
          w.decide-answer.new.client.value version) (ap is_ok (sym w.answer-is) ∙ sym c.if-is_ok.ensures.value)
          w.decide-answer.ensures.ok in
          steps_committed c.args.region.now tag pairs v l w.decide-answer.new.client.value e ok.0
          w.in-Ok.ensures.all.same ok.2 (subst (λ (s : ClientShown). HasSettled s.value e) w.client-is
          c.settle.ensures.settled) some
          c.args.logs.now.writes c.lock_all.new.taken refl c.same_addresses.ensures w.in-Ok.ensures.held
          w.in-Ok.ensures.all.count w.in-Ok.ensures.all.steps)
      | in-Err w ↦ err_not_ok c.match-lock_all.answer _ w.answer-is (sym c.if-is_ok.ensures.value)
    ]

pub returns-else-is_ok-clause-stopped : goal.returns-else-is_ok-clause-stopped
returns-else-is_ok-clause-stopped g c =
    let region = c.args.region.now in
    let log = c.args.logs.now.writes in
    let v = c.args.client.now.value in
    let l = c.lock_all.new.client.value in
    let e = c.give_back_first.new.client.value in
    let some = some_pairs log c.requires.logged.written in
    elim c.match-lock_all.branch [
      | in-Ok w ↦ subst (λ r. IfErr r (λ stop. HasStopped region log stop v e)) (sym w.answer-is)
          (map_err w.decide-answer.result (λ stop. HasFailedDeciding region log stop l w.decide-answer.new.client.value)
          (λ stop. HasStopped region log stop v e)
          (λ stop failed. stopped_deciding region log v l some stop w.decide-answer.new.client.value e
          w.in-Ok.ensures.all.same
          (w.in-Ok.ensures.all.steps ∙ ap (λ n. v.attempt.steps + 2 * n) w.in-Ok.ensures.all.count) failed
          (subst (λ (s : ClientShown). returned e ≡ returned s.value) w.client-is c.give_back_first.ensures.same)
          (c.give_back_first.ensures.steps ∙ ap (λ (s : ClientShown). s.value.attempt.steps + c.lock_all.new.taken)
          w.client-is ∙ ap (λ n. w.decide-answer.new.client.value.attempt.steps + n) w.in-Ok.ensures.all.count)
          (c.give_back_first.ensures.gave_back (let there = some_locks log c.requires.logged.written
          c.same_addresses.ensures in omega (arith, there, w.in-Ok.ensures.all.count)))
          c.give_back_first.ensures.able c.give_back_first.ensures.free)
          w.decide-answer.ensures.failed)
      | in-Err w ↦ subst (λ r. IfErr r (λ stop. HasStopped region log stop v e)) (sym w.answer-is)
          (stopped_locking region log v l some _ e c.lock_all.new.taken w.in-Err.ensures.failed w.in-Err.ensures.shown
          (subst (λ (s : ClientShown). returned e ≡ returned s.value) w.client-is c.give_back_first.ensures.same)
          c.give_back_first.ensures.able c.give_back_first.ensures.free)
    ]

pub returns-else-is_ok-clause-steps : goal.returns-else-is_ok-clause-steps
returns-else-is_ok-clause-steps g c =
    let v = c.args.client.now.value in
    let l = c.lock_all.new.client.value in
    let few = locks_few c.args.logs.now.writes c.same_addresses.ensures in
    elim c.match-lock_all.branch [
      | in-Ok w ↦
          (let failed = err_of w.decide-answer.result (λ stop. HasFailedDeciding c.args.region.now
          c.args.logs.now.writes stop l w.decide-answer.new.client.value)
          (ap is_ok (sym w.answer-is) ∙ sym c.if-is_ok.ensures.value) w.decide-answer.ensures.failed in
          let at = ap (λ (s : ClientShown). s.value.attempt.steps) w.client-is in
          let reads = ap (λ (x : Client). length x.attempt.reads) w.in-Ok.ensures.all.same in
          omega (
            arith,
            few,
            failed.1.steps,
            at,
            reads,
            w.in-Ok.ensures.all.count,
            w.in-Ok.ensures.all.steps,
            c.give_back_first.ensures.steps,
          ))
      | in-Err w ↦
          (let at = ap (λ (s : ClientShown). s.value.attempt.steps) w.client-is in
          omega (arith, few, w.in-Err.ensures.failed.steps, w.in-Err.ensures.few, at, c.give_back_first.ensures.steps))
    ]

pub settle-requires-clause-own : goal.settle-requires-clause-own
settle-requires-clause-own g c =
    elim c.match-lock_all.branch [
      | in-Ok w ↦ ap (λ (s : ClientShown). s.table) w.client-is ∙ w.decide-answer.ensures.own ∙ c.lock_all.ensures.own ∙
          c.requires.own
      | in-Err w ↦ ap (λ (s : ClientShown). s.table) w.client-is ∙ c.lock_all.ensures.own ∙ c.requires.own
    ]

pub give_back_first-requires-clause-own : goal.give_back_first-requires-clause-own
give_back_first-requires-clause-own g c =
    elim c.match-lock_all.branch [
      | in-Ok w ↦ ap (λ (s : ClientShown). s.table) w.client-is ∙ w.decide-answer.ensures.own ∙ c.lock_all.ensures.own ∙
          c.requires.own
      | in-Err w ↦ ap (λ (s : ClientShown). s.table) w.client-is ∙ c.lock_all.ensures.own ∙ c.requires.own
    ]

pub returns-else-is_ok-clause-own : goal.returns-else-is_ok-clause-own
returns-else-is_ok-clause-own g c =
    elim c.match-lock_all.branch [
      | in-Ok w ↦ c.give_back_first.ensures.own ∙ ap (λ (s : ClientShown). s.table) w.client-is ∙
          w.decide-answer.ensures.own ∙ c.lock_all.ensures.own
      | in-Err w ↦ c.give_back_first.ensures.own ∙ ap (λ (s : ClientShown). s.table) w.client-is ∙
          c.lock_all.ensures.own
    ]

pub returns-else-is_ok-clause-ok : goal.returns-else-is_ok-clause-ok
returns-else-is_ok-clause-ok g c = none_answered c.match-lock_all.answer _ (sym c.if-is_ok.ensures.value)

pub returns-else-is_ok-clause-decides : goal.returns-else-is_ok-clause-decides
returns-else-is_ok-clause-decides g c = none_answered c.match-lock_all.answer _ (sym c.if-is_ok.ensures.value)

pub returns-then-is_ok-clause-stopped : goal.returns-then-is_ok-clause-stopped
returns-then-is_ok-clause-stopped g c = none_refused c.match-lock_all.answer _ (sym c.if-is_ok.ensures.value)
