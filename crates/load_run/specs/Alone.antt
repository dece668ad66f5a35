-- A manager with its one client between two rounds.
use Rattle.std.specs.Prelude.{◌≡◌, ◌≤◌, ◌<◌, ◌+◌, ◌*◌, ◌++◌, ℕ, List}
use Rattle.tx_memory.specs.Image.{In}
use Rattle.stm_core.specs.Client.{Record, all_aborted}
use Rattle.stm_region.specs.Shown.{RegionShown}
use Rattle.vac_manager.specs.Called.{ClientShown, HasAllGrants, CallerShown}
use Rattle.stm_object.specs.Callers.{IsOwn}
use Rattle.vac_manager.specs.Legal.{AreVersioned}
use Rattle.load_tasks.specs.declared.settings.Settings.{Settings}
use Rattle.load_run.specs.Looping.{AreKnown}

-- the records of earlier renewals, which have one writer a version and readers that wrote nothing,
-- come before the records of this renewal
pub record IsInRenewal (renewal : ℕ) (records : List Record) : Type 0 where
  pub past : List Record
  pub present : List Record
  pub records_are : records ≡ past ++ present
  pub versioned : AreVersioned past
  pub earlier : (r : Record) → In r past → r.renewal < renewal
  pub now : (r : Record) → In r present → r.renewal ≡ renewal

-- a manager and its client as one caller
abbrev pub caller_of : RegionShown → ClientShown → CallerShown
caller_of region client = record { shared = region; user = client }

-- the client is solo: it belongs to this manager and has all grants; its records are of the
-- present renewal and of earlier ones
pub record IsAloneInRenewal (y : CallerShown) : Type 0 where
  pub own : IsOwn y
  pub alone : HasAllGrants y.user.value
  pub era : IsInRenewal y.shared.renewal y.user.value.records

-- a round of a load with these settings can begin: the records that its clients will add come
-- after all present records, and the client knows no version above the number of commands in the
-- setup phase
pub record IsReadyForRound (s : Settings) (y : CallerShown) : Type 0 where
  pub last : y.shared.last ≡ s.last
  pub known : AreKnown y.shared.renewal y.user.value.floor y.user.value.records
  pub early : y.user.value.floor ≤ 4 * s.items

-- the manager was renewed with the records and the aborted attempts of its solo client, and the
-- next round can begin; the words of its first opening are the same
pub record IsRenewed (s : Settings) (y y' : CallerShown) : Type 0 where
  pub renewal : y'.shared.renewal ≡ y.shared.renewal + 1
  pub size : y'.shared.size ≡ y.shared.size
  pub first : y'.shared.first ≡ y.shared.first
  pub records : y'.user.value.records ≡ y.user.value.records
  pub aborted : all_aborted y'.user.value ≡ all_aborted y.user.value
  pub alone : IsAloneInRenewal y'
  pub ready : IsReadyForRound s y'
