use Rattle.std.proofs.Common.{◌-◌, ◌^◌, List, sym, subst, ap}
use Rattle.judge_object.specs.Call.{EachCall}
use Rattle.judge_object.specs.declared.line.Line.{Line}
use Rattle.judge_search.specs.Calls.{calls_of}
use Rattle.judge_search.specs.Walk.{InTurn, IsTimed}
use Rattle.judge_linear.specs.Reading.{AreNumbered}
use Rattle.judge_linear.proofs.Turns.{keeps_none}
use Rattle.judge_linear.proofs.history.History.new.Goals as goal
use Rattle.vac_model.specs.declared.tasks.Task.{Task}

pub returns-clause-held : goal.returns-clause-held
returns-clause-held c = record {
  ends = keeps_none c.new-2.result (calls_of c.new.result.items) c.new-2.ensures (ap calls_of c.new.ensures.items);
  turn = subst (λ (l : List (Line Task)). InTurn (calls_of l)) (sym c.new.ensures.items) tt;
  timed = subst (λ (l : List (Line Task)). EachCall (IsTimed (2 ^ 64 - 1)) (calls_of l)) (sym c.new.ensures.items) tt;
  numbered = subst (AreNumbered 1) (sym c.new.ensures.items) tt;
}
