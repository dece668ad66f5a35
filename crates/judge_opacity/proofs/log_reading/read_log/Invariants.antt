use Rattle.std.proofs.Common.{length}
use Rattle.judge_opacity.proofs.Logging.{HasReadTo}
use Rattle.judge_opacity.proofs.log_reading.read_log.Given as goal

-- the lines before were read as these attempts
abbrev pub invariant-lines : goal.invariant-lines
invariant-lines l = HasReadTo l.words l.text l.attempts.items l.rest

abbrev pub decreases-lines : goal.decreases-lines
decreases-lines l = length l.rest
