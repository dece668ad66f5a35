-- The lines of a history, and the lines of the part of a history.
use Rattle.std.specs.Prelude.{ℕ, Bool, ◌&&◌, Option, List, map}
use Rattle.std.specs.Option.{option_map}
use Rattle.vac_model.specs.declared.tasks.Task.{Task}
use Rattle.judge_object.specs.declared.line.Line.{Line}
use Rattle.judge_object.specs.Rules.{given_text}
use Rattle.judge_object.specs.Call.{Call}
use Rattle.judge_reservations.specs.declared.scope.Scope.{Scope}
use Rattle.judge_reservations.specs.Histories.{part_of_call, fits, is_timed}

-- the call of a line
abbrev pub call_of : Line Task → Call Task
call_of line = record {
  client = line.client;
  begin = line.begin;
  end = line.end;
  op = line.op;
  reply = given_text line.reply;
}

-- the calls of lines, in their order
abbrev pub calls_of : List (Line Task) → List (Call Task)
calls_of lines = map call_of lines

-- the number of a line and its call
abbrev pub numbered : Line Task → ℕ × Call Task
numbered line = (line.number, call_of line)

-- the part of the call of a line, with the number of the line
abbrev pub line_part : Scope → Line Task → Option (ℕ × Call Task)
line_part scope line = option_map (λ call. (line.number, call)) (part_of_call scope (call_of line))

-- tests if a call has a part, books nothing that the scope does not allow, and is timed
abbrev pub has_part : Scope → Call Task → Bool
has_part scope call = fits scope call && is_timed call
