use Rattle.judge_opacity.proofs.Places.{placed_is_opacity}
use Rattle.judge_opacity.proofs.laws.a_placed_verdict_sees_opacity.Goals as goal

pub returns : goal.returns
returns c = placed_is_opacity
