-- The output of a script and the state that it leaves, as functions of all its bytes.
use Rattle.std.specs.Prelude.{ℕ, Result, Ok, Err, List, [], ◌∷◌, ◌++◌, map}
use Rattle.vac_model.specs.State.{State, empty_state}
use Rattle.vac_model.specs.Run.{run}
use Rattle.vac_model.specs.declared.tasks.Task.{Task}
use Rattle.vac_lines.specs.declared.fault.LineFault.{LineFault}
use Rattle.vac_lines.specs.Lines.{lines_of}
use Rattle.vac_lines.specs.LineTable.{line_task}
use Rattle.vac_lines.specs.Text.{fault_text}
use Rattle.vac_model.specs.ReplyText.{reply_text}

-- a text as an output line
abbrev pub as_line : List ℕ → List ℕ
as_line text = text ++ 10 ∷ []

-- the state after a line, and its output line: the reply to its task, or its fault, which changes
-- nothing
abbrev pub answer : State → Result Task LineFault → State × List ℕ
answer s (Ok task) = ((run s task).0, as_line (reply_text (run s task).1))
answer s (Err fault) = (s, as_line (fault_text fault))

-- the state after these lines, and their output lines in order
abbrev pub script : State → List (Result Task LineFault) → State × List ℕ
script s [] = (s, [])
script s (line ∷ rest) =
    let first = answer s line in
    let more = script first.0 rest in
    (more.0, first.1 ++ more.1)

-- the state that a script of these bytes leaves on a system of n blocks, and the output of the
-- script
abbrev pub script_run : ℕ → List ℕ → State × List ℕ
script_run n bytes = script (empty_state n) (map line_task (lines_of bytes))

-- the state that a script leaves on a system of n blocks
abbrev pub script_state : ℕ → List ℕ → State
script_state n bytes = (script_run n bytes).0

-- the output of a script on a system of n blocks
abbrev pub script_out : ℕ → List ℕ → List ℕ
script_out n bytes = (script_run n bytes).1
