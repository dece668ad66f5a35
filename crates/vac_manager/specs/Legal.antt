-- Legal histories of tasks: the records agree with running their tasks one after the other.
use Rattle.std.specs.Prelude.{◌≡◌, ℕ, ◌-◌, ◌/◌, List, [], ◌∷◌, ◌++◌, true, false}
use Rattle.tx_memory.specs.Image.{In}
use Rattle.stm_core.specs.Client.{Client, Record}
use Rattle.stm_core.specs.History.{Sub, Serial, image_after, all_records}
use Rattle.stm_region.specs.Shown.{RegionShown}
use Rattle.stm_attempt.specs.Committing.{WasDecided}
use Rattle.tx_alloc.specs.declared.place.TheConstants.{FIRST_BLOCK, BLOCK_WORDS}
use Rattle.vac_model.specs.declared.tasks.Task.{Task}
use Rattle.vac_model.specs.declared.replies.Reply.{Reply}
use Rattle.vac_model.specs.State.{State, empty_state}
use Rattle.vac_model.specs.Run.{run}
use Rattle.vac_model.specs.Ranges.{is_task}
use Rattle.vac_model.specs.Code.{code}
use Rattle.vac_manager.specs.Law.{Shows, IsFitting, IsLawful}

-- run in state s, the record's task gives the record's reply and the state s'; the two states are
-- equal if the record wrote nothing
pub record RecordRuns (r : Record) (s s' : State) : Type 0 where
  pub task : Task
  pub reply : Reply
  pub range : is_task task ≡ true
  pub told : r.tag ≡ code task reply
  pub runs : run s task ≡ (s', reply)
  pub steady : r.writes ≡ [] → s' ≡ s

-- run one after the other from state s, each record's task gives its reply, and the final state is
-- `last`
abbrev pub IsLegal : State → List Record → State → Type 0
IsLegal s [] last = s ≡ last
IsLegal s (r ∷ rs) last = (s' : State) × RecordRuns r s s' × IsLegal s' rs last

-- lawful records that are serial from an image of a balanced state are legal from that state, and
-- the image after them represents the final state
abbrev pub SerialIsLegal : Type 0
SerialIsLegal = (image : List ℕ) (s : State) (rs : List Record) → Shows image s → Serial image rs
    → ((r : Record) → In r rs → IsLawful r.tag r.reads r.writes)
    → (last : State) × (IsLegal s rs last × Shows (image_after image rs) last)

-- the two records are not two writers of one version in one renewal
abbrev pub AreNoRivals : Record → Record → Type 0
AreNoRivals x r = x.renewal ≡ r.renewal → x.version ≡ r.version → x.writer ≡ true →
    r.writer ≡ true → ⊥

-- each version of a renewal has at most one writer
abbrev pub HaveOneWriter : List Record → Type 0
HaveOneWriter [] = Unit {0}
HaveOneWriter (x ∷ xs) = ((r : Record) → In r xs → AreNoRivals x r) × HaveOneWriter xs

-- each version of a renewal has at most one writer, and the record of a reader wrote nothing
pub record AreVersioned (rs : List Record) : Type 0 where
  pub writers : HaveOneWriter rs
  pub readers : (r : Record) → In r rs → r.writer ≡ false → r.writes ≡ []

-- the capacity of a manager's region, in entries
abbrev pub capacity_of : RegionShown → ℕ
capacity_of region = (region.size - FIRST_BLOCK) / BLOCK_WORDS

-- the records are a complete history of a manager's region: legal from the empty state, with this
-- final state
abbrev pub IsHistoryTo : RegionShown → List Record → State → Type 0
IsHistoryTo region records last = IsLegal (empty_state (capacity_of region)) records last

-- the history was legal when a client with this value decided its last record: in the core state
-- of its region right after that step, the records of all clients were a history, and the client's
-- own records were among them, each once and in their order
-- Not said: which other clients were out.
pub record WasLegal (region : RegionShown) (v : Client) : Type 0 where
  -- the record that the deciding step made is the client's last record
  pub made : Record
  pub earlier : List Record
  pub newest : v.records ≡ earlier ++ (made ∷ [])
  pub decided : WasDecided IsFitting IsLawful region made v
  pub out : v.is_gathered ≡ false
  pub last : State
  pub legal : IsHistoryTo region (all_records decided.decides.core.clients) last
  pub among : Sub v.records (all_records decided.decides.core.clients)
