-- The running core follows the abstract core, and its order is the history of the abstract core.
use Rattle.std.specs.Prelude.{◌≡◌, ℕ, ◌<◌, ◌↔◌, true, List, map}
use Rattle.stm_core.specs.Client.{Record}
use Rattle.stm_core.specs.Core.{Core, Event, Allowed}
use Rattle.stm_core.specs.Theorem.{free_law, Reaches, IsHistory}
use Rattle.stm_core.specs.Guards.{stripe_of}
use Rattle.stm_replay.specs.Running.{Running, entry_of_record, stripes_of, may_run, has_number, shown_core, run_opened, found_of, ran}
use Rattle.stm_replay.specs.declared.event.Entry.{Entry}
use Rattle.stm_core.specs.declared.version.TheConstants.{VERSION_LIMIT}

-- the core has exactly one history; the entries and the points are those of its records, in the
-- order of that history
-- Not said: what a record read and wrote. An entry has its client, tag, version and kind.
pub record IsOrderOfCore (c : Core) (entries : List Entry) (points : List ℕ) : Type 0 where
  pub history : List Record
  pub is_history : IsHistory c history
  pub only : (rs : List Record) → IsHistory c rs → rs ≡ history
  pub listed : entries ≡ map entry_of_record history
  pub dated : points ≡ map (λ r. r.point) history

-- some list of allowed events leads from an opening to an abstract core, and the running core is
-- the result of the same list on the running core just opened
-- Not said: which list of events led there, only that there is one.
pub record IsReached (s : Running) : Type 0 where
  pub image : List ℕ
  pub last : ℕ
  pub stripes : ℕ
  pub events : List Event
  pub core : Core
  pub leads : Reaches free_law image last stripes events core
  pub versions : last < VERSION_LIMIT
  pub locks : 0 < stripes
  pub plays : s ≡ ran events (run_opened image last stripes)

-- the running core shows the core, and the order of the running core is the history of the core
pub record FollowsCore (lk : ℕ → ℕ) (s : Running) (c : Core) : Type 0 where
  pub shows : s.core ≡ shown_core c
  pub order : IsOrderOfCore c s.order.entries s.order.points
  -- for each client, the last step found the same word in both cores
  pub finds : (client : ℕ) → found_of s.core client ≡ found_of c client
  -- the running core plays exactly the events that are allowed in the core and have their client
  -- number
  pub allows : (e : Event)
      → (may_run (stripes_of s.core) e s.core ≡ true)
      ↔ (Allowed free_law lk e c × (has_number e c ≡ true))

-- after any list of allowed events, the running core follows the core that the events lead to
abbrev pub RunningFollows : Type 0
RunningFollows = (image : List ℕ) (last stripes : ℕ) (events : List Event) (c : Core)
    → Reaches free_law image last stripes events c
    → FollowsCore (stripe_of stripes) (ran events (run_opened image last stripes)) c
