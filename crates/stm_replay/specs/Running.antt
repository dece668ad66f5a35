-- The running core: the part of the core's state that it keeps, and the decided records.
use Rattle.std.specs.Prelude.{◌≡◌, ℕ, ◌+◌, ◌-◌, ◌<◌, Bool, true, ◌&&◌, nat_lt, cond, List, [], ◌∷◌, ◌++◌, length, map, slice_set, replicate, ◌≢◌, ◌≤◌, Option, None}
use Rattle.tx_memory.specs.Image.{In}
use Rattle.stm_core.specs.Client.{Record, found_by, old_version, writes_to, is_committed}
use Rattle.stm_core.specs.Event.{Action, decision, giving, fresh, taking, renewing, gone, opener}
use Rattle.stm_core.specs.Core.{Core, found, left, written, client_of, stamp_of, is_out, Event, acts, splits, gathers, renews, may_play}
use Rattle.stm_core.specs.Guards.{stripe_of}
use Rattle.stm_replay.specs.Seat.{blank, seat_after, tag_number}
use Rattle.stm_replay.specs.Placing.{Placed, put_in}
use Rattle.stm_replay.specs.declared.event.Entry.{Entry}
use Rattle.stm_core.specs.declared.limits.TheConstants.{MOST_GRANTS}
use Rattle.stm_replay.specs.declared.limits.TheConstants.{MOST_CLIENTS}
use Rattle.stm_core.specs.declared.version.TheConstants.{VERSION_LIMIT}

-- the running core: the part of the core that is kept, and the decided records in the order of
-- their point steps, with the positions of these steps in the list of events
pub record Running : Type 0 where
  pub core : Core
  pub order : Placed

-- the lock that covers an address in this core
abbrev pub stripes_of : Core → ℕ → ℕ
stripes_of c = stripe_of (length c.locks)

-- true unless the event splits off a client and no client number is left. Client numbers have 32
-- bits
abbrev pub has_number : Event → Core → Bool
has_number (splits k) c = nat_lt (length c.clients) MOST_CLIENTS
has_number _ c = true

-- true if the running core plays the event: the event may be played, and a new client has a number
-- left
abbrev pub may_run : (ℕ → ℕ) → Event → Core → Bool
may_run lk (splits k) c = may_play lk (splits k) c && nat_lt (length c.clients) MOST_CLIENTS
may_run lk e c = may_play lk e c

-- the entry of a decided record: without reads and writes, and with the tag as a number
abbrev pub entry_of_record : Record → Entry
entry_of_record r = record {
  client = r.client;
  tag = tag_number r.tag;
  version = r.version;
  writer = r.writer;
  renewal = r.renewal;
}

-- the running core with the record that one event decided, if there is one, put into the order. An
-- event decides at most one record
abbrev pub entered : List Record → Running → Running
entered [] s = s
entered (r ∷ rs) s = record s { order = put_in (entry_of_record r) r.point s.order }

-- the running core after a step e of client k
abbrev pub run_acts : ℕ → Action → Running → Running
run_acts k e s =
    let c = s.core in
    let v = client_of c k in
    let n = found (stripes_of c) c e in
    let d = written e (left e n v) c in
    let seats = slice_set c.clients (k - 1) (seat_after c.events e n v) in
    entered (decision (stamp_of c k) e n v)
    (record s { core = record d { clients = seats; events = c.events + 1 } })

-- the running core after an event
abbrev pub run_played : Event → Running → Running
run_played (acts k e) s = run_acts k e s
run_played (splits k) s =
    let c = s.core in
    let v = client_of c k in
    let seats = slice_set c.clients (k - 1) (blank (giving v)) ++ blank (fresh v) ∷ [] in
    record s { core = record c { clients = seats; events = c.events + 1 } }
run_played (gathers k j) s =
    let c = s.core in
    let v = blank (taking (client_of c k) (client_of c j)) in
    let seats = slice_set (slice_set c.clients (k - 1) v) (j - 1) gone in
    record s { core = record c { clients = seats; events = c.events + 1 } }
run_played (renews k last) s =
    let c = s.core in
    record s {
      core = record c {
        last = last;
        renewal = c.renewal + 1;
        events = c.events + 1;
        clock = 0;
        locks = replicate (length c.locks) 0;
        clients = slice_set c.clients (k - 1) (blank (renewing (client_of c k)));
      };
    }

-- the running core just opened on an image
abbrev pub run_opened : List ℕ → ℕ → ℕ → Running
run_opened image last stripes = record {
  core = record {
    first = [];
    past = [];
    last = last;
    opening = [];
    renewal = 0;
    events = 0;
    clock = 0;
    locks = replicate stripes 0;
    cells = image;
    clients = opener ∷ [];
  };
  order = record { entries = []; points = [] };
}

-- the word that the last step of the client with this number found; none if no client has the
-- number
abbrev pub found_of : Core → ℕ → Option ℕ
found_of c k =
    cond (nat_lt 0 k && nat_lt (k - 1) (length c.clients)) (found_by (client_of c k)) None

-- some client has this number
pub record IsThere (c : Core) (k : ℕ) : Type 0 where
  pub some : 0 < k
  pub inside : k - 1 < length c.clients

-- the bounds on which the code of a step relies: versions below the limit, held locks and decided
-- writes inside the region, and few enough grants
pub record IsSane (c : Core) : Type 0 where
  pub last : c.last < VERSION_LIMIT
  pub some : 0 < length c.locks
  pub held : (k j : ℕ) → writes_to (client_of c k).attempt.held j ≡ true → j < length c.locks
  pub written : (k a x : ℕ) → is_committed (client_of c k).attempt.phase ≡ true
      → In (a, x) (client_of c k).attempt.writes → a < length c.cells
  pub versions : (k : ℕ) → (client_of c k).attempt.wv < VERSION_LIMIT
  pub old : (k j : ℕ) → old_version (client_of c k).attempt.held j < VERSION_LIMIT
  pub grants : (k j : ℕ) → k ≢ j → is_out c k ≡ true → is_out c j ≡ true
      → (client_of c k).grants + (client_of c j).grants + 1 ≤ MOST_GRANTS

-- the part of a core that the running core keeps
abbrev pub shown_core : Core → Core
shown_core c = record c { first = []; past = []; opening = []; clients = map blank c.clients }

-- the running core after a list of events
abbrev pub ran : List Event → Running → Running
ran [] s = s
ran (e ∷ es) s = ran es (run_played e s)
