use Rattle.judge_part_text.proofs.Then.{illegal_from}
use Rattle.judge_part_text.proofs.laws.illegal_parts_until_an_end_show_illegal_histories.Goals as goal

pub returns : goal.returns
returns c = illegal_from c.illegal_parts_show_illegal_histories.ensures
