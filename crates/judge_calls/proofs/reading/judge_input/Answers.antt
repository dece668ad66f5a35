use Rattle.judge_calls.proofs.Telling.{legal_heard, verdict_heard}
use Rattle.judge_calls.proofs.reading.judge_input.Goals as goal

pub returns-in-GoOn-clause-judged : goal.returns-in-GoOn-clause-judged
returns-in-GoOn-clause-judged g c =
    legal_heard _ c.args.blocks _ _ _ _ _ _ _ c.in-GoOn.is c.new.ensures c.in_ok-read_lines.ensures
    c.summary.ensures

pub returns-in-Some-clause-judged : goal.returns-in-Some-clause-judged
returns-in-Some-clause-judged g c =
    verdict_heard _ c.args.blocks _ _ _ _ _ _ c.in-Some.verdict c.in-Stop.is c.new.ensures
    c.in_ok-read_lines.ensures c.in-Some.is
