use Rattle.judge_part_text.proofs.Illegal.{no_fault}
use Rattle.judge_part_text.proofs.laws.parts_are_written_for_cuts.Goals as goal

pub returns : goal.returns
returns c = no_fault c.calls_of_cuts_have_parts.ensures
