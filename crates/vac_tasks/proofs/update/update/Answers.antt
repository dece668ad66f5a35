use Rattle.std.proofs.Common.{◌≡◌, ◌<◌, ◌∙◌, arith, take, length}
use Rattle.std.proofs.lemmas.List.{take_more, take_all, length-take-le}
use Rattle.vac_tasks.proofs.Held.{held_ran}
use Rattle.vac_tasks.proofs.Parts.{change_in_range, changed_more, few_changes, updated}
use Rattle.vac_tasks.proofs.update.update.Goals as goal

pub run_command-requires : goal.run_command-requires
run_command-requires g c = record {
  state = c.loop-i.invariant.state;
  range = change_in_range c.args.changes.now c.loop-i.i _ c.loop-i-test.true c.requires.range;
}

pub loop-i-preserved : goal.loop-i-preserved
loop-i-preserved g c =
    let few = few_changes c.args.changes.now c.requires.range in
    let short : c.loop-i.i < 32 = omega (arith, c.loop-i-test.true, few) in
    let count : length (take c.loop-i.i c.args.changes.now) ≡ c.loop-i.i =
    length-take-le c.loop-i.i c.args.changes.now (omega (arith, c.loop-i-test.true)) in
    let ran = c.in_ok-reply.ensures.answer in
    record {
      origin = c.in_ok-reply.ensures.origin ∙ c.loop-i.invariant.origin;
      state = held_ran _ _ _ _ ran c.loop-i.invariant.state;
      runs = changed_more _ _ _ _ _ _ _ _ c.loop-i.i _ c.loop-i.invariant.runs ran
          (take_more c.args.changes.now c.loop-i.i _ c.loop-i-test.true) count short c.refusal.ensures;
    }

pub returns-clause-answer : goal.returns-clause-answer
returns-clause-answer g c =
    let whole = take_all c.loop-i.i c.args.changes.now c.loop-i-test.false in
    updated _ _ c.args.changes.now c.loop-i.refused (rw whole at c.loop-i.invariant.runs)
