use Rattle.judge_opacity.proofs.Places.{placements_keep_attempts}
use Rattle.judge_opacity.proofs.laws.places_keep_the_attempts.Goals as goal

pub returns : goal.returns
returns c = placements_keep_attempts
