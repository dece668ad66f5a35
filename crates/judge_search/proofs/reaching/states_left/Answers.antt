use Rattle.std.proofs.Common.{subst}
use Rattle.std.specs.Prelude.{IfSome}
use Rattle.judge_search.specs.Calls.{calls_of}
use Rattle.judge_search.specs.Point.{point_at}
use Rattle.judge_search.specs.Reaching.{AreReached}
use Rattle.judge_search.proofs.Judged.{at_start}
use Rattle.judge_search.proofs.ReachedPoints.{left_of}
use Rattle.judge_search.proofs.reaching.states_left.Goals as goal

pub returns-in_ok-final_states-in-Some : goal.returns-in_ok-final_states-in-Some
returns-in_ok-final_states-in-Some g c =
    let X = g.M.Object.rules in
    let calls = c.args.calls.now in
    let first = point_at X calls c.new-start.result in
    left_of X (point_at X calls) c.args.machine (calls_of calls.lines.items) first c.in-Some.points.items
    c.in_ok-final_states-in-Some.field-0.items c.requires.whole
    (at_start X calls c.new-start.result c.args.machine c.new-start.ensures.low c.new-start.ensures.beyond
    c.new-start.ensures.machine)
    (subst (λ reached. IfSome reached (λ points. AreReached X (point_at X calls) first points.items)) c.in-Some.is
    c.in_ok-points.ensures)
    c.in_ok-final_states-in-Some.ensures
