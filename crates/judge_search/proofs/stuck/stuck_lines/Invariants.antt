use Rattle.std.proofs.Common.{◌-◌, length}
use Rattle.judge_search.specs.Marks.{is_made}
use Rattle.judge_search.specs.Calls.{calls_of}
use Rattle.judge_search.proofs.StuckCalls.{AreFound}
use Rattle.judge_search.proofs.stuck.stuck_lines.Given as goal

abbrev pub invariant-calls : goal.invariant-calls
invariant-calls g l = AreFound (g.M.Object.rules) l.machine (is_made l.low l.beyond)
    (calls_of l.calls.lines.items) l.found.items l.from

abbrev pub decreases-calls : goal.decreases-calls
decreases-calls g l = length l.calls.lines.items - l.from
