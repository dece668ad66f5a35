-- A region's table between any two steps of any threads: a list of allowed events leads to its
-- state, so that every property of such lists holds of the table.
use Rattle.std.specs.Prelude.{◌≡◌, ℕ, ◌-◌, List, length}
use mathlib.Core.Option.{some}
use lib.ListN.{get_elem?}
use Rattle.atomic_table.specs.Table.{State}
use Rattle.stm_core.specs.Client.{Client, RecordLaw}
use Rattle.stm_core.specs.Core.{Core, Event, opened}
use Rattle.stm_core.specs.Invariant.{Sorted}
use Rattle.stm_core.specs.Theorem.{Reaches, IsSerializable}
use Rattle.stm_region.specs.Shown.{Opened}
use Rattle.stm_core.specs.Guards.{stripe_of}
use Rattle.stm_region.specs.Layout.{padding}
use Rattle.stm_region.specs.Traced.{Mirrors}
use Rattle.stm_region.specs.Rule.{listed}
use Rattle.stm_region.specs.declared.layout.TheConstants.{FIRST_LOCK}

-- some list of allowed events leads to a core with the table's words and clients
-- Not said: of two states, that the list of the later one begins with that of the earlier one. Of
-- the states of one run that holds (`HasOneList`).
-- Not said: of a region that was renewed, at which last version the first of its clocks ended: it
-- is some number for which the list is allowed.
pub record IsListed (lawful : RecordLaw) (o : Opened) (s : State (Unit {0}) Client) : Type 0 where
  -- the last version of the first opening
  pub last : ℕ
  -- the steps, splits, gathers and renewals of all clients
  pub events : List Event
  pub core : Core
  -- each event is allowed in its turn, and the events lead from the first opening to the core
  pub leads : Reaches lawful o.first last o.stripes events core
  -- every statement of the core theorem holds of this list and this core
  pub stands
      : IsSerializable lawful (stripe_of o.stripes) (opened o.first last o.stripes) events core
  -- the table has the core's words: the clock, the lock words and the data words
  pub gap : List ℕ
  pub pad : List ℕ
  pub words : s.words ≡ listed gap pad core
  pub before_locks : length gap ≡ FIRST_LOCK - 1
  pub locks : length core.locks ≡ o.stripes
  pub before_cells : length pad ≡ padding o.stripes
  -- the table's clients are the clients of the core, apart from the fields that a region does not
  -- keep
  pub clients : Mirrors s.views core.clients
  -- in both, each client's records are in order: by renewal, then version, the writer of a version
  -- before its readers. So only readers of one version can be in a different order
  pub sorted : (i : ℕ) (v : Client) → get_elem? s.views i ≡ some v → Sorted v.records
  pub core_sorted : (i : ℕ) (v : Client) → get_elem? core.clients i ≡ some v → Sorted v.records
  -- the core is in the region's renewal, which was opened on the region's image
  pub first : core.first ≡ o.first
  pub renewal : core.renewal ≡ o.renewal
  pub opening : core.opening ≡ o.image
  pub last_version : core.last ≡ o.last
