use Rattle.std.proofs.Common.{take}
use Rattle.judge_search.specs.Calls.{calls_of}
use Rattle.judge_search.specs.Checking.{HavePlaces}
use Rattle.judge_search.proofs.order.is_linearization.Given as goal

abbrev pub invariant-places : goal.invariant-places
invariant-places g l =
    HavePlaces (g.M.Object.rules) l.fn.machine (calls_of l.calls.lines.items) (take l.number l.fn.places) l.point
