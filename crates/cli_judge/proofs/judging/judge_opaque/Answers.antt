use Rattle.cli_judge.specs.Asking.{JudgesOpacity}
use Rattle.cli_judge.proofs.Reported.{through}
use Rattle.cli_judge.proofs.judging.judge_opaque.Goals as goal

pub returns-clause-judged : goal.returns-clause-judged
returns-clause-judged g c =
    through (λ a b. JudgesOpacity c.args.how.place c.args.how.words c.judge_opaque_as-status.result
    (g.R.Read.remaining a) (g.R.Read.remaining b) (g.W.Write.contents c.args.output.now)
    (g.W.Write.contents c.judge_opaque_as-status.new.output))
    _ _ _ _ c.watch.ensures.inner c.measure_attempts.ensures.inner c.judge_opaque_as-status.ensures

pub returns-clause-reported : goal.returns-clause-reported
returns-clause-reported g c = (c.measure_attempts.result, c.report_attempts.ensures)
