use Rattle.std.proofs.Common.{length}
use Rattle.judge_part_text.proofs.Histories.{HasReadTo}
use Rattle.judge_part_text.proofs.reading.read_history.Given as goal

abbrev pub invariant-lines : goal.invariant-lines
invariant-lines l = HasReadTo l.text l.lines.items l.rest

abbrev pub decreases-lines : goal.decreases-lines
decreases-lines l = length l.rest
