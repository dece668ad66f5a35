-- The effect of one event of the line reader on a running script and on its output.
use Rattle.std.specs.Prelude.{◌≡◌, ℕ, List, [], ◌++◌, Option, Result, Ok, Err}
use Rattle.std.specs.Io.KnownBytes.{Appends}
use Rattle.vac_model.specs.State.{State}
use Rattle.vac_model.specs.declared.replies.Reply.{Reply}
use Rattle.vac_model.specs.declared.tasks.Task.{Task}
use Rattle.vac_lines.specs.declared.fault.LineFault.{LineFault}
use Rattle.vac_lines.specs.declared.fault.LineFault.TheVariants as fault
use Rattle.vac_lines.specs.LineTable.{line_task}
use Rattle.vac_lines.specs.Script.{answer, as_line}
use Rattle.vac_lines.specs.Text.{Extends, fault_text}
use Rattle.vac_model.specs.ReplyText.{reply_text}
use Rattle.vac_lines.specs.Writing.{AppendsPrefix}
use Rattle.vac_manager.specs.Called.{CallerShown}
use Rattle.vac_lines.specs.declared.stream_fault.StreamFault.{StreamFault}
use Rattle.vac_lines.specs.declared.next.Next.{Next}
use Rattle.vac_lines.specs.declared.next.Next.TheVariants.{GoOn}
use Rattle.vac_lines.specs.Told.{Message, Line, LongLine, Pause}
use Rattle.cli_script.specs.System.{StandsInState, AnsweredLine}

-- the task of a line that was read, or its fault; a pause has no task
abbrev pub told_task : Message → Result Task LineFault
told_task (Line text) = line_task text
told_task LongLine = Err fault.LongLine
told_task Pause = Err fault.BadCommand

-- the output line for a reply or for the fault of a line
abbrev pub answer_line : Result Reply LineFault → List ℕ
answer_line (Ok reply) = as_line (reply_text reply)
answer_line (Err fault) = as_line (fault_text fault)

-- a prefix of the text was written
pub record WroteInPart (held holds : Option (List ℕ)) (whole : List ℕ) : Type 0 where
  pub text : List ℕ
  pub written : Appends held holds text
  pub prefix : Extends text whole

-- an output line was appended to the buffered text; or memory was refused, and no more was written
-- than the buffered text and a part of the line
abbrev pub Puts : List ℕ → List ℕ → Option (List ℕ) → Result Next StreamFault → List ℕ
    → Option (List ℕ) → Type 0
Puts out line held (Ok next) out' holds =
    (next ≡ GoOn) × (out' ≡ out ++ line) × (holds ≡ held)
Puts out line held (Err fault) out' holds = WroteInPart held holds (out ++ line)

-- no more was written than the buffered text and a part of the output line
pub record AnsweredCut (y : CallerShown) (out : List ℕ) (held holds : Option (List ℕ))
    (line : Result Task LineFault) : Type 0 where
  pub text : List ℕ
  pub written : Appends held holds text
  pub on : (s : State) → StandsInState y s → Extends text (out ++ (answer s line).1)

-- a line was run and its output line was added to the buffered text, or memory was refused
-- Not said: that the buffered text is written before the fault is returned.
abbrev pub HearsLine : CallerShown → List ℕ → Option (List ℕ) → Result Task LineFault
    → Result Next StreamFault → CallerShown → List ℕ → Option (List ℕ) → Type 0
HearsLine y out held line (Ok next) y' out' holds =
    (next ≡ GoOn) × AnsweredLine y y' out out' line × (holds ≡ held)
HearsLine y out held line (Err fault) y' out' holds = AnsweredCut y out held holds line

-- the buffered text was written, or after a fault a part of it
abbrev pub HearsPause : CallerShown → List ℕ → Option (List ℕ)
    → Result Next StreamFault → CallerShown → List ℕ → Option (List ℕ) → Type 0
HearsPause y out held (Ok next) y' out' holds =
    (next ≡ GoOn) × (y' ≡ y) × (out' ≡ []) × Appends held holds out
HearsPause y out held (Err fault) y' out' holds = AppendsPrefix held holds out

-- the effect of an event of the line reader on the system, on the buffered text and on the output
abbrev pub Hears : CallerShown → List ℕ → Option (List ℕ) → Message
    → Result Next StreamFault → CallerShown → List ℕ → Option (List ℕ) → Type 0
Hears y out held (Line text) answer y' out' holds =
    HearsLine y out held (told_task (Line text)) answer y' out' holds
Hears y out held LongLine answer y' out' holds =
    HearsLine y out held (told_task LongLine) answer y' out' holds
Hears y out held Pause answer y' out' holds = HearsPause y out held answer y' out' holds
