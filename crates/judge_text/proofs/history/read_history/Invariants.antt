use Rattle.std.proofs.Common.{length}
use Rattle.judge_text.proofs.Histories.{HasReadTo}
use Rattle.judge_text.proofs.history.read_history.Given as goal

abbrev pub invariant-lines : goal.invariant-lines
invariant-lines g l = HasReadTo g.M.Object.rules g.M.TextObject.language l.text l.lines.items l.rest

abbrev pub decreases-lines : goal.decreases-lines
decreases-lines g l = length l.rest
