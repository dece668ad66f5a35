use Rattle.judge_calls.proofs.judge.Judge.new.Goals as goal

pub returns : goal.returns
returns c = record { state = c.empty_manager.ensures; spans = c.new.ensures }
