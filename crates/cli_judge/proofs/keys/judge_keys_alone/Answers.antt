use Rattle.cli_judge.proofs.Stores.{judges_without}
use Rattle.cli_judge.proofs.keys.judge_keys_alone.Goals as goal

pub returns-clause-judged : goal.returns-clause-judged
returns-clause-judged g c =
    judges_without c.new-starts.result c.new.result c.new-starts.ensures c.new.ensures c.judge_objects.ensures.judged
