use Rattle.std.proofs.Common.{inr}
use Rattle.cli_judge.proofs.Judgement.{held_in_slice, unordered}
use Rattle.cli_judge.proofs.searching.judge_found_work.Goals as goal

pub returns-in-Ok : goal.returns-in-Ok
returns-in-Ok g c = held_in_slice _ _ _ _ _ _ _ _ _ _ c.in-Ok.ensures.bytes c.as_slice.ensures.value
    c.check_in_any_order.ensures

pub returns-in-Err : goal.returns-in-Err
returns-in-Err g c = inr (unordered _ _ _ _ _ _ _ _ c.in-Err.fault c.end_by.ensures.status c.in-Err.ensures.fault
    c.end_by.ensures.line)
