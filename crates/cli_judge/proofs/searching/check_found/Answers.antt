use Rattle.std.proofs.Common.{leb-true}
use Rattle.std.proofs.lemmas.Bool.{and_parts}
use Rattle.cli_judge.proofs.Judgement.{order_held}
use Rattle.cli_judge.proofs.searching.check_found.Goals as goal

pub judge_order_with_workload-requires-clause-some : goal.judge_order_with_workload-requires-clause-some
judge_order_with_workload-requires-clause-some g c = leb-true _ _ (and_parts _ _ c.requires).0

pub judge_order_with_workload-requires-clause-most : goal.judge_order_with_workload-requires-clause-most
judge_order_with_workload-requires-clause-most g c = leb-true _ _ (and_parts _ _ c.requires).1

pub returns : goal.returns
returns g c = order_held _ _ c.args.blocks c.judge_order_with_workload.result _ _ _ _ _ _
    c.judge_order_with_workload.ensures.ok
    c.judge_order_with_workload.ensures.err c.end_judged.ensures
