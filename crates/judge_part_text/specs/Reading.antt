-- Reading the calls of a history, in whatever order.
use Rattle.std.specs.Prelude.{◌≡◌, ℕ, ◌+◌, Result, Ok, Err, List, ◌∷◌, ◌++◌, map, length}
use Rattle.vac_model.specs.declared.tasks.Task.{Task}
use Rattle.vac_lines.specs.Lines.{lines_of}
use Rattle.judge_object.specs.declared.line.Line.{Line}
use Rattle.judge_calls.specs.declared.fault.CallFault.{CallFault}
use Rattle.judge_calls.specs.Call.{Call, line_call}
use Rattle.judge_calls.specs.Laws.{Lists}
use Rattle.judge_reservations.specs.Lines.{call_of, calls_of}
use Rattle.judge_part_text.specs.declared.reading.Reading.{Reading}
use Rattle.judge_part_text.specs.declared.reading.Reading.TheVariants.{Whole, Damaged}

-- this line, counted from 1, is no call by this fault, and the lines before it are calls
pub record IsFirstDamaged (bytes : List ℕ) (line : ℕ) (fault : CallFault) : Type 0 where
  pub before : List Call
  pub rest : List (Result Call CallFault)
  pub listed : map line_call (lines_of bytes) ≡ map Ok before ++ Err fault ∷ rest
  pub number : line ≡ length before + 1

-- a line was read as its call, or as its first fault
abbrev pub IsReadLine : List ℕ → Result (Line Task) CallFault → Type 0
IsReadLine text (Ok line) = line_call text ≡ Ok (call_of line)
IsReadLine text (Err fault) = line_call text ≡ Err fault

-- a text was read as its calls, or as its first line that is no call
abbrev pub IsReadingOf : List ℕ → Reading → Type 0
IsReadingOf bytes (Whole lines) = Lists bytes (calls_of lines.items)
IsReadingOf bytes (Damaged line fault) = IsFirstDamaged bytes line fault
