use Rattle.judge_search.specs.Marks.{is_made}
use Rattle.judge_search.proofs.Lookback.{LooksBack}
use Rattle.judge_search.proofs.point.has_earlier.Given as goal

abbrev pub invariant-links : goal.invariant-links
invariant-links g l = LooksBack (g.M.Object.rules) (is_made l.low l.beyond) l.calls.lines.items l.place l.after

abbrev pub decreases-links : goal.decreases-links
decreases-links g l = l.after
