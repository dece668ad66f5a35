use Rattle.std.proofs.Common.{inr}
use Rattle.cli_judge.proofs.Judgement.{found_text}
use Rattle.cli_judge.proofs.searching.check_in_any_order.Goals as goal

pub returns-in-Ok : goal.returns-in-Ok
returns-in-Ok g c = found_text _ _ _ _ _ _ _ _ _ _ _ c.as_slice.ensures.value c.in-Ok.ensures.order
    c.in-Ok.ensures.unwritten c.check_found.ensures

pub returns-in-Err : goal.returns-in-Err
returns-in-Err g c = inr (_, c.in-Err.ensures.none)
