-- The effect of a load's setup phase.
use Rattle.std.specs.Prelude.{◌≡◌, ◌≤◌, ◌+◌, ℕ, List, [], ◌∷◌, ◌++◌, length, map}
use Rattle.std.specs.Prelude.{Result, IfOk, IfErr}
use Rattle.stm_core.specs.Client.{Client}
use Rattle.stm_region.specs.Shown.{RegionShown}
use Rattle.vac_model.specs.declared.commands.Command.{Command}
use Rattle.vac_model.specs.declared.tasks.Task.{Task}
use Rattle.vac_model.specs.declared.tasks.Task.TheVariants as task
use Rattle.vac_manager.specs.Called.{HasAllGrants, HasWholeHistory, CallerShown}
use Rattle.vac_manager.specs.Legal.{WasLegal}
use Rattle.stm_object.specs.Callers.{GoesOn}
use Rattle.vac_manager.specs.declared.fault.Fault.{Fault}
use Rattle.vac_manager.specs.declared.fault.Fault.TheVariants as fault
use Rattle.load_tasks.specs.Draws.{Reader, Reads, Drew, Drawn}
use Rattle.load_tasks.specs.Tasks.{opening}
use Rattle.load_tasks.specs.declared.settings.Settings.{Settings}
use Rattle.load_run.specs.Keeping.{RecorderContents, HasKeptAdded}
use Rattle.load_run.specs.Looping.{Answered}

-- each command as a task
abbrev pub as_tasks : List Command → List Task
as_tasks commands = map (λ c. task.One c) commands

-- the commands were read from drawn words, and each of them was issued and completed, in their
-- order; each raised the version that the client knows by at most one
pub record RanDrawn {D : Type 0} (leads : D → ℕ → D → Type 0) (renewal : ℕ)
    (reader : Reader (List Command)) (v v' : Client) (state last : D) : Type 0 where
  pub commands : List Command
  pub drawn : Drawn leads reader state commands last
  pub answered : Answered renewal (as_tasks commands) v v'
  pub near : v'.floor ≤ v.floor + length commands

-- a caller ran the commands of this reader, in the renewal of its manager
abbrev pub RanIn : {D : Type 0} → (D → ℕ → D → Type 0) → Reader (List Command)
    → CallerShown → CallerShown → D → D → Type 0
RanIn leads reader y y' state last =
    RanDrawn leads y.shared.renewal reader y.user.value y'.user.value state last

-- the last call of a solo client was completed by the manager of this region: the client's records
-- are a complete history, and the last of them was decided in a state of the region's core
pub record IsAnswered (region : RegionShown) (v : Client) : Type 0 where
  pub whole : HasWholeHistory region v
  pub legal : WasLegal region v

-- words were drawn from the first state to the last one, and the items are the first that the
-- reader reads from these words followed by some more words
pub record Begun {D X : Type 0} (leads : D → ℕ → D → Type 0) (reader : Reader (List X))
    (state : D) (xs : List X) (last : D) : Type 0 where
  pub words : List ℕ
  pub drew : Drew leads state words last
  pub more : List ℕ
  pub rest : List X
  pub reads : Reads reader (words ++ more) (xs ++ rest)

-- the reason for which a command of the setup phase is refused to a client that knows this
-- version: refused memory, or a clock that is spent at its last version, which is the version that
-- the client knows
abbrev pub IsOpeningFault : ℕ → ℕ → Fault → Type 0
IsOpeningFault last floor fault.Arguments = ⊥
IsOpeningFault last floor fault.Memory = Unit {0}
IsOpeningFault last floor (fault.Busy conflict) = ⊥
IsOpeningFault last floor (fault.Spent version) = (version ≡ last) × (floor ≡ last)

-- a solo client completed this command, and its recorder kept the call: the command added its
-- record, and raised the version that the client knows by at most one
pub record WasAnswered (command : Command) (y y' : CallerShown) (before after : RecorderContents)
    : Type 0 where
  pub answered : Answered y.shared.renewal (task.One command ∷ []) y.user.value y'.user.value
  pub near : y'.user.value.floor ≤ y.user.value.floor + 1
  pub ready : IsAnswered y.shared y'.user.value
  pub kept : HasKeptAdded y.shared.renewal y.user.value y'.user.value before after

-- a command of the setup phase was refused to a solo client for this reason, and added no record
pub record WasRefused (e : Fault) (y y' : CallerShown) : Type 0 where
  pub why : IsOpeningFault y.shared.last y.user.value.floor e
  pub same : y'.user.value.records ≡ y.user.value.records

-- the setup phase stopped with this fault: commands were read from the front of drawn words, in
-- their order; those before the last one were issued and completed, and the last one was refused
-- with the fault, or was not issued because the recorder had no room, and added no record
pub record Stopped {D : Type 0} (leads : D → ℕ → D → Type 0) (renewal last : ℕ)
    (reader : Reader (List Command)) (e : Fault) (v v' : Client) (state left : D)
    : Type 0 where
  pub asked : List Command
  pub refused : Command
  pub begun : Begun leads reader state (asked ++ (refused ∷ [])) left
  pub between : Client
  pub answered : Answered renewal (as_tasks asked) v between
  pub near : between.floor ≤ v.floor + length asked
  pub kept : v'.records ≡ between.records
  pub why : IsOpeningFault last between.floor e

-- a caller stopped within the commands of this reader, with the clock of its manager
abbrev pub StoppedIn : {D : Type 0} → (D → ℕ → D → Type 0) → Reader (List Command) → Fault
    → CallerShown → CallerShown → D → D → Type 0
StoppedIn leads reader e y y' state left = Stopped leads y.shared.renewal y.shared.last reader e
    y.user.value y'.user.value state left

-- a solo client issued the commands of this reader with this result: the caller went on, and
-- still has all grants; it ran all commands, or stopped within them
pub record RanOrStopped {D : Type 0} (leads : D → ℕ → D → Type 0) (reader : Reader (List Command))
    (result : Result (Unit {0}) Fault) (y y' : CallerShown) (state last : D) : Type 0 where
  pub caller : GoesOn y y'
  pub grants : HasAllGrants y'.user.value
  pub ran : IfOk result (λ _. RanIn leads reader y y' state last)
  pub stopped : IfErr result (λ fault. StoppedIn leads reader fault y y' state last)

-- a solo client issued the commands of a load's setup phase with this result: the caller went on,
-- and still has all grants; it ran all commands and its last call completed, or it
-- stopped within them
pub record OpeningEnded {D : Type 0} (leads : D → ℕ → D → Type 0) (s : Settings)
    (result : Result (Unit {0}) Fault) (y y' : CallerShown) (state last : D) : Type 0 where
  pub asked : RanOrStopped leads (opening s) result y y' state last
  pub ready : IfOk result (λ _. IsAnswered y.shared y'.user.value)
