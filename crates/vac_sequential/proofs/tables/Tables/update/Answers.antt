use Rattle.std.proofs.Common.{◌≡◌, ◌++◌, ◌∷◌, [], ◌+◌, ◌-◌, ap, sym, ◌∙◌, arith, take, length, slice_set, ◌<◌}
use Rattle.std.proofs.lemmas.List.{length-take-le}
use Rattle.std.specs.Prelude.{None, replicate}
use Rattle.std.proofs.lemmas.List.{take_more}
use Rattle.vac_model.specs.Run.{steps}
use Rattle.vac_model.proofs.Noted.{noted, steps_more, length-steps}
use Rattle.vac_sequential.proofs.tables.Tables.update.Goals as goal

pub loop-i-preserved : goal.loop-i-preserved
loop-i-preserved c =
    let done = take c.loop-i.i c.args.changes.now in
    let more = take_more c.args.changes.now c.loop-i.i _ c.loop-i-test.true in
    let after = steps_more c.args.self.now c.loop-i.self c.step.new.self done
    (take (c.loop-i.i + 1) c.args.changes.now) _ c.in_ok-reply.reply
    c.loop-i.invariant.state more c.in_ok-reply.ensures.ok in
    let whys = (steps c.args.self.now done).1 in
    let count : length whys ≡ c.loop-i.i = length-steps c.args.self.now done ∙
    length-take-le c.loop-i.i c.args.changes.now (omega (arith, c.loop-i-test.true)) in
    let short : c.loop-i.i < 32 = omega (arith, c.loop-i-test.true, c.requires.short) in
    record {
      state = ap (λ o. o.0) after;
      noted =
          ap (λ r. slice_set r c.loop-i.i c.refusal.result) c.loop-i.invariant.noted
          ∙ noted whys c.loop-i.i c.refusal.result count short
          ∙ ap (λ w. (whys ++ w ∷ []) ++ replicate (32 - (c.loop-i.i + 1)) None) c.refusal.ensures
          ∙ sym (ap (λ o. o.1 ++ replicate (32 - (c.loop-i.i + 1)) None) after);
      small = c.in_ok-reply.ensures.stays_small;
    }
