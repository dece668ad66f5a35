-- Findings of the searches on the calls of a history, in the order in which the calls are kept.
use Rattle.std.specs.Prelude.{◌≡◌, ◌⊎◌, ◌+◌, ◌≤◌, ⊤, ℕ, true, None, List, map}
use Rattle.std.specs.List.{list_all, filter_map}
use Rattle.vac_model.specs.declared.limits.TheConstants.{MOST_BLOCKS}
use Rattle.vac_model.specs.declared.tasks.Task.{Task}
use Rattle.vac_model.specs.State.{State, empty_state}
use Rattle.judge_object.specs.declared.line.Line.{Line}
use Rattle.judge_object.specs.Orders.{IsMerge, IsLinearizable}
use Rattle.judge_object.specs.declared.level.Level.{Level}
use Rattle.judge_object.specs.declared.level.Level.TheVariants as level
use Rattle.judge_object.specs.Relaxed.{relax, PendingAreLast}
use Rattle.vac_lines.specs.Lines.{lines_of}
use Rattle.judge_calls.specs.Call.{Call}
use Rattle.judge_calls.specs.Laws.{Lists}
use Rattle.judge_search.specs.declared.walk.Finding.{Finding}
use Rattle.judge_search.specs.declared.walk.Finding.TheVariants as finding
use Rattle.judge_search.specs.Searching.{HasRun}
use Rattle.judge_linear.specs.declared.order.SearchedCalls.{SearchedCalls}
use Rattle.judge_linear.specs.Reading.{texts_of, AreKeptLines, first_wrong}
use Rattle.judge_reservations.specs.Histories.{part_of_history}
use Rattle.judge_reservations.specs.Lines.{numbered, line_part, has_part}
use Rattle.judge_reservations.specs.Reserving.{reserving}
use Rattle.judge_search.specs.declared.calls.Calls.{Calls}
use Rattle.judge_search.specs.Calls.{calls_of}
use Rattle.judge_search.specs.Configurations.{start}
use Rattle.judge_search.specs.Judging.{IsFoundIn}
use Rattle.judge_search.specs.Point.{point_at}
use Rattle.judge_search.specs.Sorting.{AreSortOf}
use Rattle.judge_linear.specs.declared.order.SearchResult.{SearchResult}
use Rattle.judge_linear.specs.declared.order.SearchResult.TheVariants as judged
use Rattle.judge_linear.specs.declared.part.IllegalPart.{IllegalPart}
use Rattle.judge_linear.specs.Moments.{IsWrongPart}

-- the part of a history has no order: all calls have parts on the scope, the kept calls are those
-- parts, and no order of the parts is a linearization, nor was one at the end of a call
pub record HasNoOrderOf (lines : List (Line Task)) (part : IllegalPart) : Type 0 where
  pub fits : list_all (has_part part.scope) (calls_of lines) ≡ true
  pub from : List (Line Task)
  pub numbers : map numbered from ≡ filter_map (line_part part.scope) lines
  pub sorted : AreSortOf from part.calls.lines.items
  pub merges : IsMerge (part_of_history part.scope (calls_of lines))
      (calls_of part.calls.lines.items)
  pub none : IsLinearizable reserving (empty_state MOST_BLOCKS)
      (part_of_history part.scope (calls_of lines)) → ⊥
  pub wrong : IsWrongPart part.calls.lines.items part.wrong

-- what the searches find of calls, from a state on, in at most `steps` steps of each search
abbrev pub IsJudged : State → Calls Task → ℕ → SearchResult → Type 0
IsJudged s calls steps (judged.AllCalls found) =
    IsFoundIn reserving (point_at reserving calls) s (calls_of calls.lines.items) steps found
IsJudged s calls steps (judged.Part part) = HasNoOrderOf calls.lines.items part

-- calls at a level, as they are kept for a search
pub record AreRelaxed (kept : Level) (lines sorted : List (Line Task)) : Type 0 where
  pub relaxed : List (Line Task)
  pub texts : texts_of relaxed ≡ texts_of lines
  pub calls : calls_of relaxed ≡ relax kept (calls_of lines)
  pub are_kept : AreKeptLines relaxed sorted

-- what the searches find of the calls of lines at a level, from a state on, in at most `steps`
-- steps of each search
pub record IsJudgedAs (kept : Level) (s : State) (lines : List (Line Task)) (steps : ℕ)
    (searched : SearchedCalls) : Type 0 where
  pub relaxed : AreRelaxed kept lines searched.calls.lines.items
  pub judged : IsJudged s searched.calls steps searched.judged

-- an exact search of the calls of lines as they are given can make this number of steps
pub record HasSearched (s : State) (lines : List (Line Task)) (steps : ℕ) : Type 0 where
  pub sorted : List (Line Task)
  pub are_kept : AreKeptLines lines sorted
  pub run : HasRun reserving steps (start s (calls_of sorted))

-- a finding is a linearization
abbrev pub IsOrder : {P : Type 0} → Finding P → Type 0
IsOrder (finding.Order places) = ⊤
IsOrder (finding.NoOrder most point) = ⊥
IsOrder (finding.Unknown most) = ⊥

-- a linearization is found
abbrev pub HasFoundOrder : SearchResult → Type 0
HasFoundOrder (judged.AllCalls found) = IsOrder found.finding
HasFoundOrder (judged.Part part) = ⊥

-- the search of the lines as they are given finds a linearization, or a search at the level follows
abbrev pub IsJudgedFirst : Level → State → List (Line Task) → ℕ → ℕ → SearchedCalls → Type 0
IsJudgedFirst kept s lines given left searched =
    (IsJudgedAs level.Linearizable s lines given searched × HasFoundOrder searched.judged)
    ⊎ IsJudgedAs kept s lines left searched

-- what the searches find at a level below linearizability: after a search of the lines as they are
-- given, in at most half of the steps, the search at the level has the steps that are left
pub record IsJudgedBelow (kept : Level) (s : State) (lines : List (Line Task)) (steps : ℕ)
    (searched : SearchedCalls) : Type 0 where
  pub given : ℕ
  pub left : ℕ
  pub together : given + left ≡ steps
  pub half : given + given ≤ steps
  pub before : HasSearched s lines given
  pub sorted : List (Line Task)
  pub relaxed : AreRelaxed kept lines sorted
  pub judged : IsJudgedFirst kept s lines given left searched

-- what the searches find of the calls of lines at a level
abbrev pub IsJudgedAt : Level → State → List (Line Task) → ℕ → SearchedCalls → Type 0
IsJudgedAt level.Linearizable s lines steps searched =
    IsJudgedAs level.Linearizable s lines steps searched
IsJudgedAt kept s lines steps searched = IsJudgedBelow kept s lines steps searched

-- a text has these lines, which are calls in turn, and the relaxed lines are their calls without
-- the order that the level does not keep
pub record IsReadAt (kept : Level) (bytes : List ℕ) (relaxed : List (Line Task)) : Type 0 where
  pub texts : texts_of relaxed ≡ lines_of bytes
  pub calls : List Call
  pub listed : Lists bytes calls
  pub right : first_wrong bytes ≡ None
  pub last : PendingAreLast calls
  pub are : calls_of relaxed ≡ relax kept calls
