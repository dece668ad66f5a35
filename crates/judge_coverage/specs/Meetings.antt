-- Calls with their moments, of all calls together and apart by client.
use Rattle.std.specs.Prelude.{true, false}
use Rattle.judge_coverage.specs.declared.meetings.Meetings.{Meetings}
use Rattle.judge_coverage.specs.Moments.{AreMoments}

-- the moments are those of the calls
pub record AreMeetings (meetings : Meetings) : Type 0 where
  pub together : AreMoments false meetings.calls.now meetings.together
  pub apart : AreMoments true meetings.calls.now meetings.apart
