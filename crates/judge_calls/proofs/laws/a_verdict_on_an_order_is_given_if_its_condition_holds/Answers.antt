use Rattle.judge_calls.proofs.OneVerdict.{verdict_has_its_condition}
use Rattle.judge_calls.proofs.laws.a_verdict_on_an_order_is_given_if_its_condition_holds.Goals as goal

pub returns : goal.returns
returns c =
    verdict_has_its_condition c.a_verdict_finds_the_linearizations.ensures
    c.a_missing_verdict_names_the_first_task_that_is_left_out.ensures
