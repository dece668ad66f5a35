-- The calls of a part of a history as they stood at a moment.
use Rattle.std.specs.Prelude.{◌≡◌, ◌<◌, ◌≤◌, ℕ, Bool, true, Option, Some, List, length, map}
use Rattle.std.specs.Prelude.{slice_get, IfSome}
use Rattle.std.specs.List.{filter_map}
use Rattle.std.specs.Option.{option_and_then}
use Rattle.vac_model.specs.declared.limits.TheConstants.{MOST_BLOCKS}
use Rattle.vac_model.specs.declared.tasks.Task.{Task}
use Rattle.vac_model.specs.State.{State, empty_state}
use Rattle.judge_object.specs.declared.span.TheConstants.{NEVER}
use Rattle.judge_object.specs.declared.line.Line.{Line}
use Rattle.judge_object.specs.Orders.{IsMerge, IsLinearizable}
use Rattle.judge_object.specs.Cut.{cut, cut_call, line_cut}
use Rattle.judge_calls.specs.Call.{Call}
use Rattle.judge_reservations.specs.declared.scope.Scope.{Scope}
use Rattle.judge_reservations.specs.Histories.{part_of_call}
use Rattle.judge_reservations.specs.Lines.{numbered}
use Rattle.judge_reservations.specs.Reserving.{reserving}
use Rattle.judge_search.specs.declared.calls.Calls.{Calls}
use Rattle.judge_search.specs.Calls.{calls_of, has_ended, rest_of}
use Rattle.judge_search.specs.Configurations.{start, answered, PlacesAtMost, Deepest}
use Rattle.judge_search.specs.Sorting.{AreSortOf}
use Rattle.judge_search.specs.Stuck.{AreStuck}
use Rattle.judge_search.specs.Walk.{InTurn}
use Rattle.judge_linear.specs.declared.moments.CutPart.{CutPart}
use Rattle.judge_linear.specs.declared.moments.WrongPart.{WrongPart}
use Rattle.judge_linear.specs.Possible.{HadStatesBefore}

-- the part of a call on a scope, as the part stood at a moment
abbrev pub part_then : Scope → ℕ → Call → Option Call
part_then scope moment call = option_and_then (cut_call moment) (part_of_call scope call)

-- the kept calls are those of lines as the calls stood at a moment
pub record AreCutCalls (moment : ℕ) (lines : List (Line Task)) (calls : Calls Task) : Type 0 where
  pub from : List (Line Task)
  pub numbers : map numbered from ≡ filter_map (line_cut moment) lines
  pub sorted : AreSortOf from calls.lines.items
  pub merges : InTurn (calls_of from) → IsMerge (calls_of from) (calls_of calls.lines.items)

-- the completed call of the line at a position ended at a moment
pub record EndsAt (lines : List (Line Task)) (place moment : ℕ) : Type 0 where
  pub line : Line Task
  pub at : slice_get lines place ≡ Some line
  pub completed : has_ended line ≡ true
  pub end : line.end ≡ moment

-- the call with a number is completed, and ended at a moment
pub record IsEndIn (lines : List (Line Task)) (number moment : ℕ) : Type 0 where
  pub place : ℕ
  pub ends : EndsAt lines place moment
  pub number_is : ends.line.number ≡ number

-- the calls of lines, as they stood at a moment, had no order: the kept calls are those calls, and
-- in a state with as many placed calls as can be placed the given calls are blocked, at least one
pub record HadNoOrder (lines : List (Line Task)) (part : CutPart) : Type 0 where
  pub early : part.moment < NEVER
  pub from : List (Line Task)
  pub numbers : map numbered from ≡ filter_map (line_cut part.moment) lines
  pub sorted : AreSortOf from part.calls.lines.items
  pub merges : IsMerge (cut part.moment (calls_of lines)) (calls_of part.calls.lines.items)
  pub none : IsLinearizable reserving (empty_state MOST_BLOCKS)
      (cut part.moment (calls_of lines)) → ⊥
  pub most : ℕ
  pub made : ℕ → Bool
  pub state : State
  pub deepest : Deepest reserving
      (start (empty_state MOST_BLOCKS) (calls_of part.calls.lines.items)) most
      (record { rest = rest_of made 0 (calls_of part.calls.lines.items); state = state })
  pub bound : PlacesAtMost reserving (answered (calls_of part.calls.lines.items)) most
      (start (empty_state MOST_BLOCKS) (calls_of part.calls.lines.items))
  pub are : AreStuck reserving state made (calls_of part.calls.lines.items) part.stuck.items
  pub some : 1 ≤ length part.stuck.items

-- the calls of lines, as they stood at the end of the completed call at a position, had no order
pub record HadNoOrderAt (lines : List (Line Task)) (place : ℕ) (part : CutPart) : Type 0 where
  pub ends : EndsAt lines place part.moment
  pub none : HadNoOrder lines part

-- the calls of lines, as they stood at the end of the call with the given number, had no order. If
-- a number of states is given, that many were possible just before
pub record IsWrongPart (lines : List (Line Task)) (wrong : WrongPart) : Type 0 where
  pub ended : IsEndIn lines wrong.line wrong.part.moment
  pub none : HadNoOrder lines wrong.part
  pub states_before : IfSome wrong.states (HadStatesBefore (calls_of lines) wrong.part.moment)
