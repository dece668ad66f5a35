use Rattle.judge_linear.proofs.Lawful.{states_show_first_end}
use Rattle.judge_linear.proofs.laws.an_illegal_part_with_states_has_no_earlier_end.Goals as goal

pub returns : goal.returns
returns c = states_show_first_end c.a_cut_of_a_cut_is_a_cut.ensures
    c.a_cut_of_a_linearizable_history_is_linearizable.ensures
