use Rattle.std.proofs.Common.{rules, [], refl, ap, ◌∙◌, inl, arith, false}
use Rattle.stm_region.specs.Shown.{RegionShown, ClientShown}
use Rattle.stm_logs.specs.Log.{empty_log}
use Rattle.stm_attempt.specs.Begun.{is_unfinished}
use Rattle.stm_attempt.specs.Meaning.{Origin}
use Rattle.stm_attempt.specs.Leading.{nothing_logged}
use Rattle.stm_object.specs.Object.{IsFitting}
use Rattle.stm_object.proofs.Adding.{committed, finish_commits, added_last, unplaced_begun, at_place, adds_at}
use Rattle.stm_object.proofs.Adding.{abort_listed, commit_unlisted}
use Rattle.stm_object.proofs.Lawful.{has_value, does_reading, lawful}
use Rattle.stm_object.proofs.Histories.{in_order, decided_reading, spared}
use Rattle.stm_object.proofs.Knowing.{near_finished}
use Rattle.stm_object.proofs.Stopping.{shown_by_read}
use Rattle.stm_object.proofs.Tracing.{made, one_committed, one_aborted, abandoned}
use Rattle.stm_object.proofs.attempts.try_reading.Goals as goal

pub read-answer-requires-clause-value : goal.read-answer-requires-clause-value
read-answer-requires-clause-value g c =
    has_value g.S.Object.is g.S.Object.local _ _ _ _ empty_log
    (ap (λ (x : ClientShown). is_unfinished x.value.attempt.phase) c.begin-attempt.ensures.value)
    c.begin-attempt.ensures.region c.requires.may.opened.size refl

pub finish-version-requires-clause-lawful : goal.finish-version-requires-clause-lawful
finish-version-requires-clause-lawful g c =
    lawful g.S.Object.is (g.B.Body.entry_of c.args.body.now c.in-Ok.found) _ _
    (does_reading g.S.Object.is g.S.Object.local _ _ _ _ _ _ _ _ (g.B.Body.entry_of c.args.body.now c.in-Ok.found)
    (ap (λ (x : ClientShown). is_unfinished x.value.attempt.phase) c.begin-attempt.ensures.value)
    c.in-Ok.ensures.origin c.in-Ok.ensures.answer)

pub returns-in-Some-clause-tried : goal.returns-in-Some-clause-tried
returns-in-Some-clause-tried g c = record {
  grants = search rules;
  floor = search rules;
  free_handed = search rules;
  unplaced = unplaced_begun c.args.region.now _ _ _ c.read-answer.new.memory.client.now.value _
      c.requires.may.unplaced c.begin-attempt.ensures.value
      (ap (λ (o : Origin). o.client.value) c.read-answer.ensures.origin) (search rules);
  attempt = search rules;
  records = search rules;
  order = tt;
  spares = tt;
  alone = search rules;
  near = search rules;
  aborted = abort_listed c.args.region.now _ _ _ c.read-answer.new.memory.client.now.value _
      c.begin-attempt.ensures.value (ap (λ (o : Origin). o.client.value) c.read-answer.ensures.origin)
      (search rules) (search rules);
  stopped = (
    search rules,
    inl (shown_by_read _ _ _ _ _ (ap (λ (o : Origin). o.region) c.read-answer.ensures.origin
        ∙ c.begin-attempt.ensures.region) (c.stopped.ensures.shown _ c.in-Some.is) (search rules)),
  );
}

pub returns-clause-tried : goal.returns-clause-tried
returns-clause-tried g c =
    let entry = g.B.Body.entry_of c.args.body.now c.in-Ok.found in
    let region = ap (λ (o : Origin). o.region) c.in-Ok.ensures.origin ∙ c.begin-attempt.ensures.region in
    let same = ap (λ (o : Origin). o.client.value) c.in-Ok.ensures.origin in
    let done = finish_commits c.args.region.now c.read-answer.new.memory.region.now (g.S.Object.is.code entry) _ _
    c.args.client.now c.begin-attempt.result.client.now c.read-answer.new.memory.client.now _
    c.begin-attempt.ensures.value same c.finish-version.ensures.client.1 c.finish-version.ensures.free_handed.1 in
    let d = committed c.args.region.now c.read-answer.new.memory.region.now (g.S.Object.is.code entry) [] _ _
    c.args.client.now _ c.read-answer.new.memory.client.now.value _ _ (ap (λ (r : RegionShown). r.renewal) region)
    c.begin-attempt.ensures.earlier c.requires.may.unplaced c.begin-attempt.ensures.value same
    c.begin-attempt.ensures.version done (search rules) in
    let placed = adds_at c.args.region.now c.read-answer.new.memory.region.now (g.S.Object.is.code entry) _
    c.args.client.now.value c.read-answer.new.memory.client.now.value _ []
    c.read-answer.new.memory.client.now.value.attempt.rv d.0.adds d.1
    (at_place c.read-answer.new.memory.region.now (g.S.Object.is.code entry) c.read-answer.new.memory.client.now.value
    []
    c.read-answer.new.memory.client.now.value.attempt.rv _ _ _ refl (search rules) (search rules) refl) in
    record {
      grants = d.0.grants;
      floor = d.0.floor;
      free_handed = search rules;
      unplaced = d.0.unplaced;
      attempt = d.0.attempt;
      records = placed;
      order =
          in_order g.S.Object.is _ c.read-answer.new.memory.region.now entry _
          c.read-answer.new.memory.client.now.value _ _ [] c.read-answer.new.memory.client.now.value.attempt.rv
          d.0.adds d.1 region
          (does_reading g.S.Object.is g.S.Object.local _ _ _ _ _ _ _ _ entry
          (ap (λ (x : ClientShown). is_unfinished x.value.attempt.phase) c.begin-attempt.ensures.value)
          c.in-Ok.ensures.origin c.in-Ok.ensures.answer)
          (decided_reading g.S.Object.is _ _ _ c.finish-version.ensures.decides) (search rules);
      spares = λ _. spared (g.S.Object.is.code entry) _ c.read-answer.new.memory.region.now []
          c.read-answer.new.memory.client.now.value.attempt.rv _
          c.read-answer.new.memory.client.now.value _ d.0.adds d.1 refl;
      alone = λ _. tt;
      near = λ all.
          let n = near_finished c.args.region.now _ c.args.client.now c.begin-attempt.result.client.now
          c.read-answer.new.memory.client.now.value c.begin-attempt.ensures.value same c.begin-attempt.ensures.alone all
          c.read-answer.new.memory.region.now _ _ c.read-answer.new.memory.client.now _ _ refl
          c.finish-version.ensures.client.1 (search rules) in
          (omega (arith, n), λ _. n);
      aborted = commit_unlisted c.args.region.now c.read-answer.new.memory.region.now (g.S.Object.is.code entry) [] _ _
          c.args.client.now _ c.read-answer.new.memory.client.now.value _ _ c.begin-attempt.ensures.value same done
          (search rules);
      stopped = tt;
    }

pub returns-clause-traced : goal.returns-clause-traced
returns-clause-traced g c =
    let entry = g.B.Body.entry_of c.args.body.now c.in-Ok.found in
    let region = ap (λ (o : Origin). o.region) c.in-Ok.ensures.origin ∙ c.begin-attempt.ensures.region in
    let same = ap (λ (o : Origin). o.client.value) c.in-Ok.ensures.origin in
    let v = c.read-answer.new.memory.client.now.value in
    let done = finish_commits c.args.region.now c.read-answer.new.memory.region.now (g.S.Object.is.code entry) _ _
    c.args.client.now c.begin-attempt.result.client.now c.read-answer.new.memory.client.now _
    c.begin-attempt.ensures.value same c.finish-version.ensures.client.1 c.finish-version.ensures.free_handed.1 in
    let last = added_last c.args.region.now c.read-answer.new.memory.region.now (g.S.Object.is.code entry) [] _ _
    c.args.client.now _ v _ (ap (λ (r : RegionShown). r.renewal) region) c.begin-attempt.ensures.earlier
    c.requires.may.unplaced c.begin-attempt.ensures.value same done in
    let at = at_place c.read-answer.new.memory.region.now (g.S.Object.is.code entry) v [] v.attempt.rv
    c.renewal-renewal.result c.finish-version.result false refl (search rules) (search rules) refl in
    let prepared = c.prepare.ensures.time in
    let began = c.begun.ensures.time in
    let ran = c.read-answer.ensures.time in
    one_committed _ _ _ _ _ _ _ _ _ _ _ _ _ _ c.args.client.now.value _ _ done (search rules) (search rules)
    c.commit.ensures.ended c.commit.ensures.time (omega (arith, prepared, began, ran))
    (made (IsFitting g.S.Object.is) _ _ _ c.read-answer.new.memory.region.now _ _ 0 0
    c.begin-attempt.result.client.now c.read-answer.new.memory.client.now empty_log _ (g.S.Object.is.code entry) []
    v.attempt.rv _ c.args.client.now.value _ _
    (ap (λ (x : ClientShown). is_unfinished x.value.attempt.phase) c.begin-attempt.ensures.value)
    c.in-Ok.ensures.origin c.in-Ok.ensures.tracked nothing_logged refl last at) _ _

pub returns-in-Some-clause-traced : goal.returns-in-Some-clause-traced
returns-in-Some-clause-traced g c =
    let region = ap (λ (o : Origin). o.region) c.read-answer.ensures.origin ∙ c.begin-attempt.ensures.region in
    let runs = ap (λ (x : ClientShown). is_unfinished x.value.attempt.phase) c.begin-attempt.ensures.value in
    let prepared = c.prepare.ensures.time in
    let began = c.begun.ensures.time in
    let ran = c.read-answer.ensures.time in
    one_aborted _ (IsFitting g.S.Object.is) c.args.region.now _ _ _ _ _ _ _ _ c.args.client.now.value _ _
    (abandoned (IsFitting g.S.Object.is) _ _ _ c.read-answer.new.memory.region.now c.args.region.now _ _ 0 0
    c.begin-attempt.result.client.now c.read-answer.new.memory.client.now empty_log _ _ _ _ _ _ _
    c.read-answer.new.memory.client.now.value
    runs c.read-answer.ensures.origin c.read-answer.ensures.tracked refl (search rules) (search rules)
    c.begun.ensures.position (search rules) region c.read-answer.new.memory.stands
    c.read-answer.new.memory.standing.stands)
    (search rules) (search rules) c.give_up.ensures.ended c.give_up.ensures.time
    (omega (arith, prepared, began, ran)) (search rules) (search rules) (search rules)
