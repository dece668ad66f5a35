-- A manager with its one client, and the effect of running lines on it. A statement about a state
-- holds of each state that the client's records reach; there is exactly one.
use Rattle.std.specs.Prelude.{◌≡◌, ◌≤◌, ◌+◌, ℕ, List, ◌++◌, Result, Option}
use Rattle.std.specs.Io.KnownBytes.{Appends, Consumes, IsAtEnd}
use Rattle.vac_model.specs.State.{State, empty_state}
use Rattle.vac_model.specs.declared.tasks.Task.{Task}
use Rattle.vac_lines.specs.declared.fault.LineFault.{LineFault}
use Rattle.vac_lines.specs.Script.{answer, script_state, script_out}
use Rattle.vac_manager.specs.Legal.{IsHistoryTo, capacity_of}
use Rattle.vac_manager.specs.Called.{HasAllGrants}
use Rattle.vac_manager.specs.Called.{CallerShown}
use Rattle.stm_object.specs.Callers.{IsOwn}
use Rattle.cli_script.specs.declared.system.TheConstants.{LAST_VERSION}

-- the client is solo: it has all grants; the clock ends at the largest possible version
pub record IsLoneCaller (y : CallerShown) : Type 0 where
  pub all : HasAllGrants y.user.value
  pub last : y.shared.last ≡ LAST_VERSION

-- the records of the client are a complete history of the manager with this final state
abbrev pub StandsInState : CallerShown → State → Type 0
StandsInState y s = IsHistoryTo y.shared y.user.value.records s

-- the manager has no entry yet, and its client knows no version
pub record IsNew (y : CallerShown) : Type 0 where
  pub stands : StandsInState y (empty_state (capacity_of y.shared))
  pub floor : y.user.value.floor ≡ 0

-- a manager of n blocks was opened, with its one client
pub record OpensAlone (n : ℕ) (y : CallerShown) : Type 0 where
  pub own : IsOwn y
  pub alone : IsLoneCaller y
  pub capacity : capacity_of y.shared ≡ n
  pub fresh : IsNew y

-- the manager is the same, and its clock, as the client knows it, advanced by at most n versions
pub record GoesOnBy (y y' : CallerShown) (n : ℕ) : Type 0 where
  pub same : y'.shared ≡ y.shared
  pub ticks : y'.user.value.floor ≤ y.user.value.floor + n

-- a line was run, and its output line was appended to the output; the clock ticked at most once
pub record AnsweredLine (y y' : CallerShown) (out out' : List ℕ) (line : Result Task LineFault) :
    Type 0 where
  pub state : (s : State) → StandsInState y s → StandsInState y' (answer s line).0
  pub text : (s : State) → StandsInState y s → out' ≡ out ++ (answer s line).1
  pub goes : GoesOnBy y y' 1

-- the input was read to its end, the output of its script was written, and the system is in the
-- state after the script
pub record RanScript (n : ℕ) (y : CallerShown) (unread left held holds : Option (List ℕ)) :
    Type 0 where
  pub bytes : List ℕ
  pub consumed : Consumes unread left bytes
  pub ended : IsAtEnd left
  pub written : Appends held holds (script_out n bytes)
  pub stands : StandsInState y (script_state n bytes)
