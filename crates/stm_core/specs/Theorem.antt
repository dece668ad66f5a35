-- The core theorem: the properties of every core that a list of allowed events leads to.
use Rattle.std.specs.Prelude.{◌≡◌, ◌≢◌, ℕ, suc, ◌<◌, true, false, List, [], ◌++◌}
use Rattle.tx_memory.specs.Image.{In, Agrees}
use Rattle.stm_core.specs.Client.{Client, Record, Aborted, decided, is_settled, all_aborted, RecordLaw}
use Rattle.stm_core.specs.Core.{Core, Event, Leads, opened}
use Rattle.stm_core.specs.Version.{At}
use Rattle.stm_core.specs.Invariant.{Rule, GoesOnAlone}
use Rattle.stm_core.specs.History.{Serial, image_after, image_at, image_upto, Ascending, ByPoint}
use Rattle.stm_core.specs.Guards.{stripe_of}
use Rattle.stm_core.specs.Listed.{IsOfList}

-- the law under which every record is lawful
abbrev pub free_law : List ℕ → List (ℕ × ℕ) → List (ℕ × ℕ) → Type 0
free_law tag reads writes = Unit {0}

-- the history of a core: the decided records of all clients, each once, in the order of their
-- point steps
pub record IsHistory (c : Core) (rs : List Record) : Type 0 where
  pub ascending : ByPoint rs
  pub every : (i : ℕ) (v : Client) (r : Record) → At c.clients i v → In r v.records → In r rs
  pub only : (r : Record) → In r rs → (i : ℕ) × (v : Client) × At c.clients i v × In r v.records

-- the properties of a core that a list of events leads to from a starting core
pub record IsSerializable
    (lawful : RecordLaw) (lk : ℕ → ℕ) (start : Core) (events : List Event) (c : Core) : Type 0 where
  -- the version invariant, over all renewals
  pub rule : Rule lawful lk c
  -- the history: the records of earlier renewals, then those of the present one
  pub earlier : List Record
  pub present : List Record
  pub is_history : IsHistory c (earlier ++ present)
  -- the history is what the list of events decides, each record at a step of its own attempt
  pub is_listed : IsOfList lk start events (earlier ++ present)
  pub before : (r : Record) → In r earlier → r.renewal < c.renewal
  pub now : (r : Record) → In r present → r.renewal ≡ c.renewal
  -- the history is serial from the first opening image
  pub serial : Serial start.first (earlier ++ present)
  -- the present renewal was opened on the newest image of the one before
  pub opening : image_after start.first earlier ≡ c.opening
  -- the versions of the present renewal ascend, so that the image of a version has the writes in
  -- that order
  pub versions : Ascending present
  -- the image of the clock's version is the first image with the writes of the whole history
  -- applied
  pub newest : image_at c.opening c.clock present ≡ image_after start.first (earlier ++ present)
  -- every attempt, finished or not, has read one version: all words that it has read are in the
  -- image of its read version
  pub one_version : (i : ℕ) (v : Client) → At c.clients i v
      → Agrees (image_at c.opening v.attempt.rv present) v.attempt.reads
  -- every aborted attempt that a client lists, of this renewal or of an earlier one, has read one
  -- version: all words that it has read are in the image of its read version
  pub aborted : (i : ℕ) (v : Client) (r : Aborted) → At c.clients i v → In r (all_aborted v)
      → Agrees (image_upto start.first r.renewal r.version (earlier ++ present)) r.reads
  -- nothing aborts a solo attempt that is no decided writer
  pub lone : (i : ℕ) (v : Client) → At c.clients i v → v.attempt.lone ≡ true → decided v ≡ false
      → GoesOnAlone lawful lk c v
  -- while no lock is held, the data words are the newest image
  pub words : ((i : ℕ) (v : Client) → At c.clients i v → v.attempt.held ≡ [])
      → c.cells ≡ image_after start.first (earlier ++ present)
  -- an attempt that is not settled is in no history, and so in no image
  pub no_trace : (i : ℕ) (v : Client) (r : Record) → At c.clients i v → v.is_gathered ≡ false
      → is_settled v.attempt.phase ≡ false → In r (earlier ++ present) → r.client ≡ suc i
      → r.attempt ≢ v.attempt.number

-- the list of events is allowed from an opening on this image, and leads to the core
abbrev pub Reaches : RecordLaw → List ℕ → ℕ → ℕ → List Event → Core → Type 0
Reaches lawful image last stripes events c =
    Leads lawful (stripe_of stripes) (opened image last stripes) events c

-- every list of allowed events, in any interleaving of any number of clients, leads to a core that
-- is serializable in this sense
-- Not said: that an attempt is decided in the end, or what a client does next.
abbrev pub EveryListIsSerializable : RecordLaw → Type 0
EveryListIsSerializable lawful =
    (image : List ℕ) (last stripes : ℕ) (events : List Event) (c : Core)
    → Reaches lawful image last stripes events c
    → IsSerializable lawful (stripe_of stripes) (opened image last stripes) events c
