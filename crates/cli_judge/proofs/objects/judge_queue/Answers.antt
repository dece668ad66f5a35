use Rattle.cli_judge.specs.Objects.{JudgesQueue, settings_of}
use Rattle.cli_judge.proofs.Reported.{beside, through}
use Rattle.cli_judge.proofs.objects.judge_queue.Goals as goal

pub returns-clause-judged : goal.returns-clause-judged
returns-clause-judged g c =
    through (λ a b. JudgesQueue (settings_of c.args.search) c.judge_empty-status.result
    (g.R.Read.remaining a) (g.R.Read.remaining b) (g.W.Write.contents c.args.output.now)
    (g.W.Write.contents c.judge_empty-status.new.output))
    _ _ _ _ c.watch.ensures.inner c.measure_calls.ensures.inner c.judge_empty-status.ensures.judged

pub returns-clause-reported : goal.returns-clause-reported
returns-clause-reported g c =
    beside _ _ _ _ _ _ _ c.judge_empty-status.ensures.untold (c.measure_calls.result, c.report_calls.ensures)
