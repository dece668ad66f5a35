use Rattle.judge_reservations.proofs.Changed.{taken_more, all_taken, no_changes_left}
use Rattle.judge_reservations.proofs.updates.changes_part.Goals as goal

pub changes-preserved : goal.changes-preserved
changes-preserved c = record {
  commands = taken_more (λ x. x.0) _ _ _ _ _ _ c.changes.invariant.commands c.change_at.ensures
      c.in_ok-take.ensures.commands;
  results = taken_more (λ x. x.1) _ _ _ _ _ _ c.changes.invariant.results c.change_at.ensures
      c.in_ok-take.ensures.results;
}
