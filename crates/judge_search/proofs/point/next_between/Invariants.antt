use Rattle.std.proofs.Common.{◌≡◌}
use Rattle.judge_search.specs.Marks.{is_made}
use Rattle.judge_search.specs.Calls.{calls_of, tries_from}
use Rattle.judge_search.proofs.point.next_between.Given as goal

abbrev pub invariant-lines : goal.invariant-lines
invariant-lines g l =
    tries_from (is_made l.low l.beyond) (calls_of l.calls.lines.items) l.from ≡ tries_from (is_made l.low l.beyond)
    (calls_of l.calls.lines.items) l.place
