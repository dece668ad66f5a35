use Rattle.std.proofs.Common.{length}
use Rattle.judge_text.specs.Classing.{object_of, for_object}
use Rattle.judge_text.specs.Starts.{start_of}
use Rattle.judge_text.proofs.ByNames.{AreJudged, IsSpent}
use Rattle.judge_text.proofs.parts.judge_parts.Given as goal

abbrev pub invariant-runs : goal.invariant-runs
invariant-runs g l =
    AreJudged (g.M.Object.rules) (for_object (object_of l.names) (g.M.Named.name))
    (start_of l.starts) l.fn.lines.items l.left
    × IsSpent (g.M.Object.rules) (for_object (object_of l.names) (g.M.Named.name))
    (start_of l.starts) l.steps l.fn.lines.items l.left l.rest

abbrev pub decreases-runs : goal.decreases-runs
decreases-runs g l = length l.left.entries
