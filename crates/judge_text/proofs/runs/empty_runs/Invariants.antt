use Rattle.judge_text.specs.Runs.{AreEmpty}
use Rattle.judge_text.proofs.runs.empty_runs.Given as goal

abbrev pub invariant-counts : goal.invariant-counts
invariant-counts g l = AreEmpty l.place l.runs.items
