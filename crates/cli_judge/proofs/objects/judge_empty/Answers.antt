use Rattle.cli_judge.proofs.Stores.{judges_queue}
use Rattle.cli_judge.proofs.objects.judge_empty.Goals as goal

pub returns-clause-judged : goal.returns-clause-judged
returns-clause-judged g c =
    judges_queue c.new-starts.result c.new.result c.new-starts.ensures c.new.ensures c.judge_objects.ensures.judged
