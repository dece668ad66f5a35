-- The effect of a reported line on a text of attempts that is read.
use Rattle.std.specs.Prelude.{◌≡◌, ◌≢◌, ℕ, Some, Result, Ok, Err}
use Rattle.vac_lines.specs.declared.fault.LineFault.{LineFault}
use Rattle.vac_lines.specs.declared.fault.LineFault.TheVariants as fault
use Rattle.vac_lines.specs.declared.stream_fault.StreamFault.{StreamFault}
use Rattle.vac_lines.specs.declared.stream_fault.StreamFault.TheVariants.{Write}
use Rattle.vac_lines.specs.declared.next.Next.{Next}
use Rattle.vac_lines.specs.declared.next.Next.TheVariants.{GoOn, Stop}
use Rattle.vac_lines.specs.Told.{Message, Line, LongLine, Pause}
use Rattle.judge_opacity.specs.declared.finding.Finding.{Finding}
use Rattle.judge_opacity.specs.declared.reading.Attempts.{Attempts}
use Rattle.judge_opacity.specs.Attempt.{Attempt, text_attempt}
use Rattle.judge_opacity.specs.Judging.{TakesAttempt, DecidesFinding}

-- the attempt of a reported line, or its fault. A pause has no attempt, so its value here does not
-- matter
abbrev pub told_attempt : Message → ℕ → Result Attempt LineFault
told_attempt (Line text) words = text_attempt words text
told_attempt LongLine words = Err fault.LongLine
told_attempt Pause words = Err fault.LongLine

-- a line decided the verdict, and the verdict is kept
pub record Brings (x : Attempts) (told : Message) (y : Attempts) : Type 0 where
  pub finding : Finding
  pub found : y.found ≡ Some finding
  pub ends : DecidesFinding x.judge (told_attempt told) finding

-- the line was taken; or the line decided the verdict; or a fault other than a fault of the output
-- ended the reading
abbrev pub AttemptsHearLine : Attempts → Message → Result Next StreamFault → Attempts → Type 0
AttemptsHearLine x told (Ok GoOn) y = TakesAttempt x.judge y.judge (told_attempt told)
AttemptsHearLine x told (Ok Stop) y = Brings x told y
AttemptsHearLine x told (Err stop) y = stop ≢ Write

-- a pause changes nothing, or a fault other than a fault of the output ended the reading
abbrev pub AttemptsHearPause : Attempts → Result Next StreamFault → Attempts → Type 0
AttemptsHearPause x (Ok next) y = (next ≡ GoOn) × (y ≡ x)
AttemptsHearPause x (Err stop) y = stop ≢ Write

-- the effect of a reported line or pause on a text that is read
abbrev pub AttemptsHear : Attempts → Message → Result Next StreamFault → Attempts → Type 0
AttemptsHear x (Line text) answer y = AttemptsHearLine x (Line text) answer y
AttemptsHear x LongLine answer y = AttemptsHearLine x LongLine answer y
AttemptsHear x Pause answer y = AttemptsHearPause x answer y
