use Rattle.std.proofs.Common.{leb-true, inr}
use Rattle.std.proofs.lemmas.Bool.{and_parts}
use Rattle.cli_judge.proofs.Judgement.{order_stopped}
use Rattle.cli_judge.proofs.searching.find_order.Goals as goal

pub order_history-requires-clause-some : goal.order_history-requires-clause-some
order_history-requires-clause-some g c = leb-true _ _ (and_parts _ _ c.requires).0

pub order_history-requires-clause-most : goal.order_history-requires-clause-most
order_history-requires-clause-most g c = leb-true _ _ (and_parts _ _ c.requires).1

pub returns-in-Err : goal.returns-in-Err
returns-in-Err g c = inr (
  c.end_by.ensures.status,
  order_stopped _ _ _ c.in-Err.fault _ _ _ _ _ c.in-Err.ensures.err
      c.end_by.ensures.line,
)
