use Rattle.std.proofs.Common.{sym, subst}
use Rattle.judge_object.proofs.CutLines.{all_met, one_on}
use Rattle.judge_linear.specs.Possible.{AreSameOnce}
use Rattle.judge_linear.proofs.PossibleStates.{same_none, same_more}
use Rattle.judge_linear.proofs.possible.each_once.Goals as goal

pub states-init : goal.states-init
states-init c = record {
  all = sym c.into_iter-state-iterator.ensures.into_iter_gives.0;
  same = same_none c.new-once.result.items c.new-once.ensures.items;
}

pub states-preserved : goal.states-preserved
states-preserved c = record {
  all = one_on _ _ _ _ _ c.states.invariant.all c.in-Some.ensures.steps.0;
  same = same_more c.states.yielded c.states.once.items _ c.in-Some.state c.states.invariant.same
      c.in_ok-add_state.ensures;
}

pub returns : goal.returns
returns c =
    subst (λ states. AreSameOnce states c.states.once.items)
    (all_met _ _ c.states.state-iterator c.states.invariant.all c.in-None.ensures.steps.0) c.states.invariant.same
