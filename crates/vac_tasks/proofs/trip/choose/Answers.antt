use Rattle.std.proofs.Common.{◌∙◌}
use Rattle.std.proofs.lemmas.List.{take_more}
use Rattle.vac_tasks.proofs.Held.{held_on}
use Rattle.vac_tasks.proofs.Choosing.{chosen_more}
use Rattle.vac_tasks.proofs.trip.choose.Goals as goal

pub loop-ask-preserved : goal.loop-ask-preserved
loop-ask-preserved g c =
    let looked = c.in_ok-found.ensures.answer in
    record {
      origin = c.in_ok-found.ensures.origin ∙ c.loop-ask.invariant.origin;
      state = held_on _ _ looked.reads c.loop-ask.invariant.state;
      chosen = chosen_more _ _ _ _ _ _ _ _ _ c.loop-ask.invariant.chosen looked
          (take_more c.args.asks.now c.loop-ask.ask-index _ c.loop-ask-test.true) c.see.ensures;
    }
