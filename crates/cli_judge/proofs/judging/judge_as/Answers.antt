use Rattle.std.proofs.Common.{rules}
use Rattle.cli_judge.proofs.Judgement.{judged_as, any_judged_as, not_opened_as}
use Rattle.cli_judge.proofs.judging.judge_as.Goals as goal

pub returns-in-Err-clause-judged : goal.returns-in-Err-clause-judged
returns-in-Err-clause-judged g c =
    not_opened_as (g.F.Open.holds c.args.files.now) c.args.how.given_order c.args.how.tasks _ _ _ _ _ _ _
    c.in-Err.ensures.named c.in-Err.ensures.refused

pub returns-else-how-clause-judged : goal.returns-else-how-clause-judged
returns-else-how-clause-judged g c =
    any_judged_as (g.F.Open.holds c.args.files.now) c.args.how.given_order c.args.how.tasks _ _ _ _ _ _ _
    _ _ _ (search rules) c.in-Ok.ensures.opened c.in-Ok.ensures.unwritten c.judge_any_telling.ensures.judged

pub returns-then-how-clause-judged : goal.returns-then-how-clause-judged
returns-then-how-clause-judged g c =
    judged_as (g.F.Open.holds c.args.files.now) c.args.how.given_order c.args.how.tasks _ _ _ _ _ _ _
    _ _ _ (search rules) c.in-Ok.ensures.opened c.in-Ok.ensures.unwritten c.judge_with.ensures
