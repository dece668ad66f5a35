use Rattle.judge_snapshot.proofs.Separations.{other_levels_are_separated}
use Rattle.judge_snapshot.proofs.anomalies.other_levels_are_separated.Goals as goal

pub returns : goal.returns
returns c = other_levels_are_separated
