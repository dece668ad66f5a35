-- A region's core state beside the core that a list of allowed events leads to: the two are equal,
-- apart from the fields that a region does not keep.
use Rattle.std.specs.Prelude.{◌≡◌, ℕ, ◌<◌, ◌⊎◌, true, List, [], ◌∷◌, length, map}
use mathlib.Core.Option.{some}
use lib.ListN.{get_elem?}
use Rattle.stm_core.specs.Client.{Attempt, Client, Record, RecordLaw}
use Rattle.stm_core.specs.Event.{gone}
use Rattle.stm_core.specs.Core.{Core, Event}
use Rattle.stm_core.specs.Theorem.{Reaches}
use Rattle.stm_region.specs.Shown.{Opened}

-- the record without its position in the list of events, and without its client
abbrev pub unplaced_record : Record → Record
unplaced_record r = record r { point = 0; client = 0 }

-- the attempt without the positions of its begin and its won tick
abbrev pub unplaced_attempt : Attempt → Attempt
unplaced_attempt t = record t { began_at = 0; ticked_at = 0 }

-- the two lists have the same records, each as often, in some order
pub data Shuffled : List Record → List Record → Type 0 where
  none : Shuffled [] []
  both : (r : Record) {xs ys : List Record} → Shuffled xs ys → Shuffled (r ∷ xs) (r ∷ ys)
  swap : (r x : Record) (xs : List Record) → Shuffled (r ∷ x ∷ xs) (x ∷ r ∷ xs)
  over : {xs ys zs : List Record} → Shuffled xs ys → Shuffled ys zs → Shuffled xs zs

-- the client's value as a region keeps it, with these records
abbrev pub unplaced_client : List Record → Client → Client
unplaced_client rs w = record w { records = rs; attempt = unplaced_attempt w.attempt }

-- the client's value in a region is its value in the list, apart from positions and from the order
-- of its records. Since both are sorted (`IsListed`), only readers of one version may be in
-- another order
-- Not said: in which order the list has readers of one version, those of one client among them.
abbrev pub IsShadow : Client → Client → Type 0
IsShadow v w =
    (v ≡ unplaced_client v.records w) × Shuffled v.records (map unplaced_record w.records)

-- the clients of a region are those of the list, except clients that were gathered before a
-- renewal
pub record Mirrors (vs ws : List Client) : Type 0 where
  -- the index in the list's core of the client at each index of the region; no two clients have
  -- one index
  pub number : ℕ → ℕ
  pub each : (i : ℕ) (v : Client) → get_elem? vs i ≡ some v
      → (w : Client) × (get_elem? ws (number i) ≡ some w) × IsShadow v w
  pub apart : (i j : ℕ) → i < length vs → j < length vs → number i ≡ number j → i ≡ j
  -- any other client of the list was gathered before a renewal, and has nothing left
  pub others : (j : ℕ) (w : Client) → get_elem? ws j ≡ some w
      → (w ≡ gone) ⊎ ((i : ℕ) × (i < length vs) × (number i ≡ j))
  -- every gathered client has nothing left
  pub are_gone : (j : ℕ) (w : Client) → get_elem? ws j ≡ some w → w.is_gathered ≡ true → w ≡ gone

-- a list of allowed events, with each renewal as an event, leads from the first opening to a core
-- with the same words and clients as this core of a region
pub record IsTraced (lawful : RecordLaw) (o : Opened) (c : Core) : Type 0 where
  -- the last version of the first opening
  pub last : ℕ
  pub events : List Event
  pub core : Core
  pub leads : Reaches lawful o.first last o.stripes events core
  -- all fields are the same, except the clients, the number of events and the records of earlier
  -- renewals
  pub same : c ≡ record core { clients = c.clients; events = c.events; past = c.past }
  pub clients : Mirrors c.clients core.clients
