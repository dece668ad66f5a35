use Rattle.std.proofs.Common.{rules, refl, ap, ◌∙◌, inl, inr, arith}
use Rattle.stm_region.specs.Shown.{RegionShown}
use Rattle.stm_attempt.specs.Meaning.{Origin}
use Rattle.stm_object.specs.Object.{IsFitting}
use Rattle.stm_object.proofs.Adding.{committed, added_last, unplaced_begun, unplaced_stopped, at_place, adds_at}
use Rattle.stm_object.proofs.Adding.{wrote_is, abort_listed, stop_listed, commit_unlisted}
use Rattle.stm_object.proofs.Lawful.{has_value, nothing_written, does, lawful}
use Rattle.stm_object.proofs.Histories.{in_order, spared}
use Rattle.stm_object.proofs.Knowing.{near_begun, near_committed, near_stopped}
use Rattle.stm_object.proofs.Stopping.{shown_by_read, commit_stop, not_reading}
use Rattle.stm_object.proofs.Tracing.{made, one_committed, one_aborted, abandoned, abandoned_commit}
use Rattle.stm_object.proofs.attempts.try_writing.Goals as goal

pub run-answer-requires-clause-value : goal.run-answer-requires-clause-value
run-answer-requires-clause-value g c =
    has_value g.S.Object.is g.S.Object.local _ _ _ _ _ c.begin-attempt.ensures.empty.2
    c.begin-attempt.ensures.region c.requires.may.opened.size c.begin-attempt.ensures.empty.1

pub commit-requires-clause-lawful : goal.commit-requires-clause-lawful
commit-requires-clause-lawful g c = λ _.
    lawful g.S.Object.is (g.B.Body.entry_of c.args.body.now c.in-Ok.found) _ _
    (does g.S.Object.is g.S.Object.local _ _ _ _ _ _ _ _ _ _ _ _ (g.B.Body.entry_of c.args.body.now c.in-Ok.found)
    c.begin-attempt.ensures.empty.2 c.begin-attempt.ensures.empty.1 c.in-Ok.ensures.origin c.in-Ok.ensures.answer)

pub returns-in-Some-clause-tried : goal.returns-in-Some-clause-tried
returns-in-Some-clause-tried g c = record {
  grants = search rules;
  floor = search rules;
  free_handed = search rules;
  unplaced = unplaced_begun c.args.region.now _ _ _ c.run-answer.new.memory.client.now.value _
      c.requires.may.unplaced c.begin-attempt.ensures.value
      (ap (λ (o : Origin). o.client.value) c.run-answer.ensures.origin) (search rules);
  attempt = search rules;
  records = search rules;
  order = tt;
  spares = tt;
  alone = search rules;
  near = search rules;
  aborted = abort_listed c.args.region.now _ _ _ c.run-answer.new.memory.client.now.value _
      c.begin-attempt.ensures.value (ap (λ (o : Origin). o.client.value) c.run-answer.ensures.origin)
      (search rules) (search rules);
  stopped = (
    search rules,
    inl (shown_by_read _ _ _ _ _ (ap (λ (o : Origin). o.region) c.run-answer.ensures.origin
        ∙ c.begin-attempt.ensures.region) (c.stopped.ensures.shown _ c.in-Some.is) (search rules)),
  );
}

pub returns-in_default-answer-clause-tried : goal.returns-in_default-answer-clause-tried
returns-in_default-answer-clause-tried g c = record {
  grants = search rules;
  floor = search rules;
  free_handed = search rules;
  unplaced = unplaced_begun c.args.region.now _ _ _ c.run-answer.new.memory.client.now.value _
      c.requires.may.unplaced c.begin-attempt.ensures.value
      (ap (λ (o : Origin). o.client.value) c.run-answer.ensures.origin) (search rules);
  attempt = search rules;
  records = search rules;
  order = tt;
  spares = tt;
  alone = search rules;
  near = λ all. (
    near_begun c.args.region.now _ c.args.client.now c.begin-attempt.result.client.now
        c.run-answer.new.memory.client.now.value c.begin-attempt.ensures.value
        (ap (λ (o : Origin). o.client.value) c.run-answer.ensures.origin) c.begin-attempt.ensures.alone all _
        (search rules),
    λ no. absurd (not_reading no),
  );
  aborted = abort_listed c.args.region.now _ _ _ c.run-answer.new.memory.client.now.value _
      c.begin-attempt.ensures.value (ap (λ (o : Origin). o.client.value) c.run-answer.ensures.origin)
      (search rules) (search rules);
  stopped = (refl, search rules);
}

pub returns-in-Ok-commit-clause-tried : goal.returns-in-Ok-commit-clause-tried
returns-in-Ok-commit-clause-tried g c =
    let entry = g.B.Body.entry_of c.args.body.now c.in-Ok.found in
    let region = ap (λ (o : Origin). o.region) c.run-answer.ensures.origin ∙ c.begin-attempt.ensures.region in
    let same = ap (λ (o : Origin). o.client.value) c.run-answer.ensures.origin in
    let v = c.run-answer.new.memory.client.now.value in
    let d = committed c.args.region.now c.run-answer.new.memory.region.now (g.S.Object.is.code entry) _ _ _
    c.args.client.now _ v _ _ (ap (λ (r : RegionShown). r.renewal) region) c.begin-attempt.ensures.earlier
    c.requires.may.unplaced c.begin-attempt.ensures.value same c.begin-attempt.ensures.version
    c.in-Ok-commit.ensures.ok (search rules) in
    record {
      grants = d.0.grants;
      floor = d.0.floor;
      free_handed = search rules;
      unplaced = d.0.unplaced;
      attempt = d.0.attempt;
      records = adds_at c.args.region.now c.run-answer.new.memory.region.now (g.S.Object.is.code entry) _
          c.args.client.now.value v _ _ c.in-Ok-commit.version d.0.adds d.1
          (at_place c.run-answer.new.memory.region.now (g.S.Object.is.code entry) v _ c.in-Ok-commit.version _ _ _
          c.in-Ok-commit.ensures.ok.versioned (search rules) refl
          (wrote_is v _ c.in-Ok-commit.version _ _ (search rules) (search rules) c.in-Ok-commit.ensures.ok.versioned));
      order =
          in_order g.S.Object.is _ c.run-answer.new.memory.region.now entry _ v _ _ _ _ d.0.adds d.1 region
          (does g.S.Object.is g.S.Object.local _ _ _ _ _ _ _ _ _ _ _ _ entry c.begin-attempt.ensures.empty.2
          c.begin-attempt.ensures.empty.1 c.in-Ok.ensures.origin c.in-Ok.ensures.answer)
          c.in-Ok-commit.ensures.decides (search rules);
      spares = λ why. elim why [
        | inl reads ↦ absurd (not_reading reads)
        | inr same ↦ spared (g.S.Object.is.code entry) _ c.run-answer.new.memory.region.now _ _ _ v _ d.0.adds d.1
            (nothing_written (IsFitting g.S.Object.is) _ _ _ _ _ _ _ _ _ _ _ _ c.begin-attempt.ensures.empty.2
            c.begin-attempt.ensures.empty.1 c.in-Ok.ensures.origin (c.in-Ok.ensures.wrote same))
      ];
      alone = λ _. tt;
      near = λ all. (
        near_committed c.args.region.now _ c.args.client.now c.begin-attempt.result.client.now v
            c.begin-attempt.ensures.value same c.begin-attempt.ensures.alone all
            c.run-answer.new.memory.region.now _ _ _ _ _ c.in-Ok-commit.ensures.version.next c.in-Ok-commit.ensures.ok
            (search rules),
        λ no. absurd (not_reading no),
      );
      aborted = commit_unlisted c.args.region.now c.run-answer.new.memory.region.now (g.S.Object.is.code entry) _ _ _
          c.args.client.now _ v _ _ c.begin-attempt.ensures.value same c.in-Ok-commit.ensures.ok (search rules);
      stopped = tt;
    }

pub returns-in-Ok-commit-clause-traced : goal.returns-in-Ok-commit-clause-traced
returns-in-Ok-commit-clause-traced g c =
    let entry = g.B.Body.entry_of c.args.body.now c.in-Ok.found in
    let region = ap (λ (o : Origin). o.region) c.run-answer.ensures.origin ∙ c.begin-attempt.ensures.region in
    let same = ap (λ (o : Origin). o.client.value) c.run-answer.ensures.origin in
    let v = c.run-answer.new.memory.client.now.value in
    let last = added_last c.args.region.now c.run-answer.new.memory.region.now (g.S.Object.is.code entry) _ _ _
    c.args.client.now _ v _ (ap (λ (r : RegionShown). r.renewal) region) c.begin-attempt.ensures.earlier
    c.requires.may.unplaced c.begin-attempt.ensures.value same c.in-Ok-commit.ensures.ok in
    let prepared = c.prepare.ensures.time in
    let began = c.begun.ensures.time in
    let ran = c.run-answer.ensures.time in
    one_committed _ _ _ _ _ _ _ _ _ _ _ _ _ _ c.args.client.now.value _ _ c.in-Ok-commit.ensures.ok (search rules)
    (search rules) c.commit-in-Ok-commit.ensures.ended c.commit-in-Ok-commit.ensures.time
    (omega (arith, prepared, began, ran))
    (made (IsFitting g.S.Object.is) _ _ _ c.run-answer.new.memory.region.now _ _ _ _
    c.begin-attempt.result.client.now c.run-answer.new.memory.client.now _ _ (g.S.Object.is.code entry) _
    c.in-Ok-commit.version _ c.args.client.now.value _ _ c.begin-attempt.ensures.empty.2
    c.run-answer.ensures.origin c.in-Ok.ensures.tracked refl refl last
    (at_place c.run-answer.new.memory.region.now (g.S.Object.is.code entry) v _ c.in-Ok-commit.version _ _ _
    c.in-Ok-commit.ensures.ok.versioned (search rules) refl
    (wrote_is v _ c.in-Ok-commit.version _ _ (search rules) (search rules) c.in-Ok-commit.ensures.ok.versioned))) _ _

pub returns-in-Err-clause-tried : goal.returns-in-Err-clause-tried
returns-in-Err-clause-tried g c = record {
  grants = search rules;
  floor = search rules;
  free_handed = search rules;
  unplaced = unplaced_stopped c.args.region.now _ _ _ _ _ _ _ _ _ c.requires.may.unplaced
      c.begin-attempt.ensures.value (ap (λ (o : Origin). o.client.value) c.run-answer.ensures.origin)
      (c.in-Err.ensures.refused (search rules)) (search rules);
  attempt = search rules;
  records = search rules;
  order = tt;
  spares = tt;
  alone = search rules;
  near = λ all. (
    near_stopped c.args.region.now _ c.args.client.now c.begin-attempt.result.client.now
        c.run-answer.new.memory.client.now.value c.begin-attempt.ensures.value
        (ap (λ (o : Origin). o.client.value) c.run-answer.ensures.origin) c.begin-attempt.ensures.alone all
        c.run-answer.new.memory.region.now _ _ _ _
        (ap (λ (o : Origin). o.region) c.run-answer.ensures.origin ∙ c.begin-attempt.ensures.region)
        c.in-Err.ensures.version.next c.in-Err.ensures.version.lone (c.in-Err.ensures.refused (search rules)),
    λ no. absurd (not_reading no),
  );
  aborted = stop_listed c.args.region.now _ _ _ _ _ _ _ _ _ c.begin-attempt.ensures.value
      (ap (λ (o : Origin). o.client.value) c.run-answer.ensures.origin) (c.in-Err.ensures.refused (search rules))
      (search rules);
  stopped =
      commit_stop g.S.Object.is (λ a. g.B.Body.entry_of c.args.body.now a) (λ a. g.B.Body.changes c.args.body.now a)
      _ _ _ c.in-Ok.found _ _ c.args.client.now.value _ _ _
      (ap (λ (o : Origin). o.region) c.run-answer.ensures.origin ∙ c.begin-attempt.ensures.region) refl (search rules)
      (λ no. nothing_written (IsFitting g.S.Object.is) _ _ _ _ _ _ _ _ _ _ _ _ c.begin-attempt.ensures.empty.2
      c.begin-attempt.ensures.empty.1 c.in-Ok.ensures.origin (c.in-Ok.ensures.wrote no))
      (c.run-answer.new.memory.placed (search rules))
      (does g.S.Object.is g.S.Object.local _ _ _ _ _ _ _ _ _ _ _ _ (g.B.Body.entry_of c.args.body.now c.in-Ok.found)
      c.begin-attempt.ensures.empty.2 c.begin-attempt.ensures.empty.1 c.in-Ok.ensures.origin c.in-Ok.ensures.answer)
      (c.in-Err.ensures.refused (search rules)) (search rules);
}

pub returns-in-Some-clause-traced : goal.returns-in-Some-clause-traced
returns-in-Some-clause-traced g c =
    let region = ap (λ (o : Origin). o.region) c.run-answer.ensures.origin ∙ c.begin-attempt.ensures.region in
    let prepared = c.prepare.ensures.time in
    let began = c.begun.ensures.time in
    let ran = c.run-answer.ensures.time in
    one_aborted _ (IsFitting g.S.Object.is) c.args.region.now _ _ _ _ _ _ _ _ c.args.client.now.value _ _
    (abandoned (IsFitting g.S.Object.is) _ _ _ c.run-answer.new.memory.region.now c.args.region.now _ _ _ _
    c.begin-attempt.result.client.now c.run-answer.new.memory.client.now _ _ _ _ _ _ _ _
    c.run-answer.new.memory.client.now.value
    c.begin-attempt.ensures.empty.2 c.run-answer.ensures.origin c.run-answer.ensures.tracked refl (search rules)
    (search rules)
    c.begun.ensures.position (search rules) region c.run-answer.new.memory.stands
    c.run-answer.new.memory.standing.stands)
    (search rules) (search rules) c.give_up.ensures.ended c.give_up.ensures.time
    (omega (arith, prepared, began, ran)) (search rules) (search rules) (search rules)

pub returns-in_default-answer-clause-traced : goal.returns-in_default-answer-clause-traced
returns-in_default-answer-clause-traced g c =
    let region = ap (λ (o : Origin). o.region) c.run-answer.ensures.origin ∙ c.begin-attempt.ensures.region in
    let prepared = c.prepare.ensures.time in
    let began = c.begun.ensures.time in
    let ran = c.run-answer.ensures.time in
    one_aborted _ (IsFitting g.S.Object.is) c.args.region.now _ _ _ _ _ _ _ _ c.args.client.now.value _ _
    (abandoned (IsFitting g.S.Object.is) _ _ _ c.run-answer.new.memory.region.now c.args.region.now _ _ _ _
    c.begin-attempt.result.client.now c.run-answer.new.memory.client.now _ _ _ _ _ _ _ _
    c.run-answer.new.memory.client.now.value
    c.begin-attempt.ensures.empty.2 c.run-answer.ensures.origin c.run-answer.ensures.tracked refl (search rules)
    (search rules)
    c.begun.ensures.position (search rules) region c.run-answer.new.memory.stands
    c.run-answer.new.memory.standing.stands)
    (search rules) (search rules) c.give_up-in_default-answer.ensures.ended c.give_up-in_default-answer.ensures.time
    (omega (arith, prepared, began, ran)) (search rules) (search rules) (search rules)

pub returns-in-Err-clause-traced : goal.returns-in-Err-clause-traced
returns-in-Err-clause-traced g c =
    let region = ap (λ (o : Origin). o.region) c.run-answer.ensures.origin ∙ c.begin-attempt.ensures.region in
    let prepared = c.prepare.ensures.time in
    let began = c.begun.ensures.time in
    let ran = c.run-answer.ensures.time in
    one_aborted _ (IsFitting g.S.Object.is) c.args.region.now _ _ _ _ _ _ _ _ c.args.client.now.value _ _
    (abandoned_commit (IsFitting g.S.Object.is) _ _ _ c.run-answer.new.memory.region.now c.args.region.now _ _ _ _
    c.begin-attempt.result.client.now c.run-answer.new.memory.client.now _ _ _ _ _ _ _ _ _ _ _
    (c.in-Err.ensures.refused (search rules))
    c.begin-attempt.ensures.empty.2 c.run-answer.ensures.origin c.run-answer.ensures.tracked (search rules)
    (search rules)
    c.begun.ensures.position (search rules) region c.run-answer.new.memory.stands
    c.run-answer.new.memory.standing.stands)
    (search rules) (search rules) c.give_up-in-Err.ensures.ended c.give_up-in-Err.ensures.time
    (omega (arith, prepared, began, ran)) (search rules) (search rules) (search rules)
