use Rattle.cli_judge.proofs.Stores.{judges_store}
use Rattle.cli_judge.proofs.keys.judge_store.Goals as goal

pub returns-clause-judged : goal.returns-clause-judged
returns-clause-judged g c =
    judges_store c.new-starts.result c.args.store c.new-starts.ensures c.judge_objects.ensures.judged
