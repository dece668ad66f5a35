use Rattle.std.proofs.Common.{inr}
use Rattle.cli_judge.proofs.Judgement.{found_judged}
use Rattle.cli_judge.proofs.searching.judge_found.Goals as goal

pub returns-in-Ok : goal.returns-in-Ok
returns-in-Ok g c =
    found_judged _ _ _ _ _ _ _ _ _ _ _ c.in-Ok.ensures.order c.as_slice.ensures.value c.in-Ok.ensures.unwritten
    c.judge_found_text.ensures

pub returns-in-Err : goal.returns-in-Err
returns-in-Err g c = inr c.in-Err.ensures.none
