use Rattle.judge_part_text.proofs.Illegal.{written_illegal}
use Rattle.judge_part_text.proofs.laws.illegal_parts_are_written_for_cuts.Goals as goal

pub returns : goal.returns
returns c = written_illegal c.the_part_of_a_cut_is_the_cut_of_the_part.ensures c.calls_of_cuts_have_parts.ensures
    c.illegal_parts_show_that_finer_parts_are_illegal.ensures
