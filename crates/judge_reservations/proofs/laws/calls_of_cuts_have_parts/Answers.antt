use Rattle.judge_reservations.proofs.CutParts.{cut_parts}
use Rattle.judge_reservations.proofs.laws.calls_of_cuts_have_parts.Goals as goal

pub returns : goal.returns
returns c = cut_parts
