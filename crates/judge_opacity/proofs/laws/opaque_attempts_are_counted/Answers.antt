use Rattle.judge_opacity.proofs.Outcomes.{opaque_counts}
use Rattle.judge_opacity.proofs.laws.opaque_attempts_are_counted.Goals as goal

pub returns : goal.returns
returns c = opaque_counts
