-- The effect of a reported line on a history that is read.
use Rattle.std.specs.Prelude.{◌≡◌, Some, Result, Ok, Err}
use Rattle.vac_lines.specs.declared.fault.LineFault.TheVariants.{LongLine}
use Rattle.vac_lines.specs.declared.stream_fault.StreamFault.{StreamFault}
use Rattle.vac_lines.specs.declared.next.Next.{Next}
use Rattle.vac_lines.specs.declared.next.Next.TheVariants.{GoOn, Stop}
use Rattle.vac_lines.specs.Told as told
use Rattle.vac_lines.specs.Told.{Message}
use Rattle.judge_calls.specs.declared.fault.CallFault.{CallFault}
use Rattle.judge_calls.specs.declared.fault.CallFault.TheVariants as fault
use Rattle.judge_calls.specs.declared.verdict.Verdict.{Verdict}
use Rattle.judge_calls.specs.declared.reading.History.{History}
use Rattle.judge_calls.specs.Call.{Call, line_call}
use Rattle.judge_calls.specs.Judging.{Takes, DecidesVerdict, IsJudgeStop}

-- the call of a reported line, or its fault. A pause is no call, so its value here does not matter
abbrev pub told_call : Message → Result Call CallFault
told_call (told.Line text) = line_call text
told_call told.LongLine = Err (fault.Line LongLine)
told_call told.Pause = Err fault.BadCall

-- a line decided the verdict, and the verdict is kept
pub record BringsVerdict (x : History) (line : Message) (y : History) : Type 0 where
  pub verdict : Verdict
  pub found : y.found ≡ Some verdict
  pub ends : DecidesVerdict x.judge (told_call line) verdict

-- the effect of a reported line on a history: the judge took the line; the line decided the
-- verdict; a pause changed nothing; or a fault of the judge ended the reading
abbrev pub HearsCall : History → Message → Result Next StreamFault → History → Type 0
HearsCall x line (Err stop) y = IsJudgeStop x.judge stop
HearsCall x told.Pause (Ok next) y = (next ≡ GoOn) × (y ≡ x)
HearsCall x line (Ok GoOn) y = Takes x.judge y.judge (told_call line)
HearsCall x line (Ok Stop) y = BringsVerdict x line y
