use Rattle.judge_opacity.proofs.Outcomes.{opaque_is_opacity}
use Rattle.judge_opacity.proofs.laws.a_finding_sees_opacity.Goals as goal

pub returns : goal.returns
returns c = opaque_is_opacity
