use Rattle.std.proofs.Common.{sym, subst}
use Rattle.std.specs.Prelude.{IfOk}
use Rattle.vac_model.specs.State.{empty_state}
use Rattle.judge_linear.specs.Judged.{IsJudgedAt}
use Rattle.judge_linear.proofs.order.judge_lines.Goals as goal

pub returns-in-Linearizable : goal.returns-in-Linearizable
returns-in-Linearizable g c =
    subst (λ kept. IfOk c.judge_given.result (IsJudgedAt kept (empty_state c.args.how.blocks)
    c.args.history.lines.items c.args.how.steps)) (sym c.in-Linearizable.is) c.judge_given.ensures
