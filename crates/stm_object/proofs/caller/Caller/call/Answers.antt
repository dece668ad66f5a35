use Rattle.std.proofs.Common.{rules, refl, ◌-◌, ◌∙◌, sym, arith}
use Rattle.stm_attempt.specs.declared.conflict.Stop.TheVariants as stop
use Rattle.stm_object.specs.Object.{IsFitting}
use Rattle.stm_object.proofs.Stopping.{Made, met_conflict, some_left, none_left, trying_next, not_conflict, no_record}
use Rattle.stm_object.proofs.Stopping.{conflict_shown, tallied_conflict, has_called, has_tallied, is_later, grows_by}
use Rattle.stm_object.proofs.Tracing.{traced_last, traced_next}
use Rattle.stm_object.proofs.caller.Caller.call.Goals as goal
use Rattle.stm_object.proofs.caller.Caller.call.Goals.{then-reads, else-reads}

pub tries-preserved : goal.tries-preserved
tries-preserved g c =
    let one : Made g.S.Object.is c.shared.inside.region (λ a. g.B.Body.entry_of c.args.body.now a)
    (λ a. g.B.Body.changes c.args.body.now a) (λ x. g.T.Tracer.frame x) (λ x. g.T.Tracer.tally x)
    (λ k t. g.T.Tracer.more k t) (λ x. g.T.Tracer.latest x) (λ x. g.T.Tracer.ended x) (g.B.Body.reads c.args.body.now)
    c.if-reads.answer c.tries.user-inside.client c.if-reads.user-inside.client c.tries.tracer c.if-reads.tracer =
    elim c.if-reads.branch [
      | then-reads w ↦
          rw (w.answer-is, w.user-inside-is, w.tracer-is, sym c.only_reads-reads.ensures ∙ w.if-reads.true) (record {
            own = w.try_reading-answer.ensures.own;
            tried = w.try_reading-answer.ensures.tried;
            traced = w.try_reading-answer.ensures.traced;
            frame_is = w.try_reading-answer.ensures.frame;
            tallied = w.try_reading-answer.ensures.tallied;
          })
      | else-reads w ↦
          rw (w.answer-is, w.user-inside-is, w.tracer-is, sym c.only_reads-reads.ensures ∙ w.if-reads.false) (record {
            own = w.try_writing-answer.ensures.own;
            tried = w.try_writing-answer.ensures.tried;
            traced = w.try_writing-answer.ensures.traced;
            frame_is = w.try_writing-answer.ensures.frame;
            tallied = w.try_writing-answer.ensures.tallied;
          })
    ] in
    let again = sym c.if-not-is_tried_again.ensures in
    let met = met_conflict (c.tries.left - 1) c.if-reads.answer again in
    record {
      own = one.own ∙ c.tries.invariant.own;
      table = one.own ∙ c.tries.invariant.table;
      mine = search rules;
      free = one.tried.free_handed;
      some = some_left _ (c.tries.left - 1) again;
      few = omega (arith, c.tries.invariant.few);
      frame = one.frame_is ∙ c.tries.invariant.frame;
      later = let a = c.tries.invariant.later in let b = one.traced.later in omega (arith, a, b);
      trying = trying_next _ _ _ c.tries.left (c.tries.left - 1) _ _ _ _ _ _ met.0
          c.tries.invariant.trying (omega (arith, c.tries.invariant.some)) one.tried.attempt
          (no_record g.S.Object.is c.shared.inside.region (λ a. g.B.Body.entry_of c.args.body.now a)
          (λ a. g.B.Body.changes c.args.body.now a) (g.B.Body.reads c.args.body.now) met.0
          c.tries.user-inside.client.value c.if-reads.user-inside.client.value c.if-reads.answer
          met.1 one.tried.records)
          one.tried.grants
          (conflict_shown g.S.Object.is c.shared.inside.region (λ a. g.B.Body.entry_of c.args.body.now a)
          (λ a. g.B.Body.changes c.args.body.now a) (g.B.Body.reads c.args.body.now) met.0
          c.tries.user-inside.client.value c.if-reads.user-inside.client.value c.if-reads.answer met.1
          one.tried.stopped)
          (tallied_conflict (λ x t. g.T.Tracer.more x t) met.0 c.if-reads.answer _ _ met.1 one.tallied) one.tried.floor
          one.tried.unplaced
          (grows_by c.shared.inside.region c.tries.user-inside.client.value c.if-reads.user-inside.client.value
          c.if-reads.answer one.tried.aborted) (λ a. not_conflict met.0 c.if-reads.answer met.1 (one.tried.alone a));
      traced = traced_next (IsFitting g.S.Object.is) c.shared.inside.region c.if-reads.answer
          (stop.Conflict met.0) c.user.inside.client.value
          c.tries.user-inside.client.value c.if-reads.user-inside.client.value _ _ _ _ _ _ met.1
          c.tries.invariant.traced one.traced one.tried.attempt c.tries.invariant.trying.records one.tried.aborted;
    }

pub returns-then-not-is_tried_again-clause-call : goal.returns-then-not-is_tried_again-clause-call
returns-then-not-is_tried_again-clause-call g c =
    let one : Made g.S.Object.is c.shared.inside.region (λ a. g.B.Body.entry_of c.args.body.now a)
    (λ a. g.B.Body.changes c.args.body.now a) (λ x. g.T.Tracer.frame x) (λ x. g.T.Tracer.tally x)
    (λ k t. g.T.Tracer.more k t) (λ x. g.T.Tracer.latest x) (λ x. g.T.Tracer.ended x) (g.B.Body.reads c.args.body.now)
    c.if-reads.answer c.tries.user-inside.client c.if-reads.user-inside.client c.tries.tracer c.if-reads.tracer =
    elim c.if-reads.branch [
      | then-reads w ↦
          rw (w.answer-is, w.user-inside-is, w.tracer-is, sym c.only_reads-reads.ensures ∙ w.if-reads.true) (record {
            own = w.try_reading-answer.ensures.own;
            tried = w.try_reading-answer.ensures.tried;
            traced = w.try_reading-answer.ensures.traced;
            frame_is = w.try_reading-answer.ensures.frame;
            tallied = w.try_reading-answer.ensures.tallied;
          })
      | else-reads w ↦
          rw (w.answer-is, w.user-inside-is, w.tracer-is, sym c.only_reads-reads.ensures ∙ w.if-reads.false) (record {
            own = w.try_writing-answer.ensures.own;
            tried = w.try_writing-answer.ensures.tried;
            traced = w.try_writing-answer.ensures.traced;
            frame_is = w.try_writing-answer.ensures.frame;
            tallied = w.try_writing-answer.ensures.tallied;
          })
    ] in
    rw (sym c.self.view_is, sym c.shared.view_is, sym c.user.view_is)
    (has_called g.S.Object.is c.shared.inside.region (λ a. g.B.Body.entry_of c.args.body.now a)
    (λ a. g.B.Body.changes c.args.body.now a) (g.B.Body.reads c.args.body.now) (λ x t. g.T.Tracer.more x t)
    c.args.tries c.tries.left (c.tries.left - 1) c.user.inside.client.value c.tries.user-inside.client.value
    c.if-reads.user-inside.client.value _ _ c.if-reads.answer c.if-reads.answer refl c.tries.invariant.trying
    (omega (arith, c.tries.invariant.some)) one.tried
    (λ conflict is. none_left (c.tries.left - 1) c.if-reads.answer conflict
    (sym c.if-not-is_tried_again.ensures) is))

pub returns-then-not-is_tried_again-clause-traced : goal.returns-then-not-is_tried_again-clause-traced
returns-then-not-is_tried_again-clause-traced g c =
    let one : Made g.S.Object.is c.shared.inside.region (λ a. g.B.Body.entry_of c.args.body.now a)
    (λ a. g.B.Body.changes c.args.body.now a) (λ x. g.T.Tracer.frame x) (λ x. g.T.Tracer.tally x)
    (λ k t. g.T.Tracer.more k t) (λ x. g.T.Tracer.latest x) (λ x. g.T.Tracer.ended x) (g.B.Body.reads c.args.body.now)
    c.if-reads.answer c.tries.user-inside.client c.if-reads.user-inside.client c.tries.tracer c.if-reads.tracer =
    elim c.if-reads.branch [
      | then-reads w ↦
          rw (w.answer-is, w.user-inside-is, w.tracer-is, sym c.only_reads-reads.ensures ∙ w.if-reads.true) (record {
            own = w.try_reading-answer.ensures.own;
            tried = w.try_reading-answer.ensures.tried;
            traced = w.try_reading-answer.ensures.traced;
            frame_is = w.try_reading-answer.ensures.frame;
            tallied = w.try_reading-answer.ensures.tallied;
          })
      | else-reads w ↦
          rw (w.answer-is, w.user-inside-is, w.tracer-is, sym c.only_reads-reads.ensures ∙ w.if-reads.false) (record {
            own = w.try_writing-answer.ensures.own;
            tried = w.try_writing-answer.ensures.tried;
            traced = w.try_writing-answer.ensures.traced;
            frame_is = w.try_writing-answer.ensures.frame;
            tallied = w.try_writing-answer.ensures.tallied;
          })
    ] in
    rw (sym c.self.view_is, sym c.shared.view_is, sym c.user.view_is)
    (traced_last (IsFitting g.S.Object.is) c.shared.inside.region c.if-reads.answer c.if-reads.answer
    c.user.inside.client.value
    c.tries.user-inside.client.value c.if-reads.user-inside.client.value _ _ _ _ _ _ refl c.tries.invariant.later
    c.tries.invariant.traced one.traced one.tried.attempt c.tries.invariant.trying.records
    (is_later g.S.Object.is c.shared.inside.region (λ a. g.B.Body.entry_of c.args.body.now a)
    c.tries.user-inside.client.value c.if-reads.user-inside.client.value c.if-reads.answer one.tried.records)
    one.tried.aborted)

pub returns-then-not-is_tried_again-clause-tallied : goal.returns-then-not-is_tried_again-clause-tallied
returns-then-not-is_tried_again-clause-tallied g c =
    let one : Made g.S.Object.is c.shared.inside.region (λ a. g.B.Body.entry_of c.args.body.now a)
    (λ a. g.B.Body.changes c.args.body.now a) (λ x. g.T.Tracer.frame x) (λ x. g.T.Tracer.tally x)
    (λ k t. g.T.Tracer.more k t) (λ x. g.T.Tracer.latest x) (λ x. g.T.Tracer.ended x) (g.B.Body.reads c.args.body.now)
    c.if-reads.answer c.tries.user-inside.client c.if-reads.user-inside.client c.tries.tracer c.if-reads.tracer =
    elim c.if-reads.branch [
      | then-reads w ↦
          rw (w.answer-is, w.user-inside-is, w.tracer-is, sym c.only_reads-reads.ensures ∙ w.if-reads.true) (record {
            own = w.try_reading-answer.ensures.own;
            tried = w.try_reading-answer.ensures.tried;
            traced = w.try_reading-answer.ensures.traced;
            frame_is = w.try_reading-answer.ensures.frame;
            tallied = w.try_reading-answer.ensures.tallied;
          })
      | else-reads w ↦
          rw (w.answer-is, w.user-inside-is, w.tracer-is, sym c.only_reads-reads.ensures ∙ w.if-reads.false) (record {
            own = w.try_writing-answer.ensures.own;
            tried = w.try_writing-answer.ensures.tried;
            traced = w.try_writing-answer.ensures.traced;
            frame_is = w.try_writing-answer.ensures.frame;
            tallied = w.try_writing-answer.ensures.tallied;
          })
    ] in
    rw (sym c.self.view_is, sym c.shared.view_is, sym c.user.view_is)
    (has_tallied g.S.Object.is c.shared.inside.region (λ a. g.B.Body.entry_of c.args.body.now a)
    (λ a. g.B.Body.changes c.args.body.now a) (g.B.Body.reads c.args.body.now) (λ x t. g.T.Tracer.more x t)
    c.args.tries c.tries.left (c.tries.left - 1) c.user.inside.client.value c.tries.user-inside.client.value
    c.if-reads.user-inside.client.value _ _ _ c.if-reads.answer c.if-reads.answer refl c.tries.invariant.trying
    (omega (arith, c.tries.invariant.some)) one.tried one.tallied)
