-- The state of a whole region as plain data, and the state after a list of events.
use Rattle.std.specs.Prelude.{◌≡◌, ℕ, zero, suc, ◌+◌, ◌-◌, Bool, true, false, not, ◌&&◌, ◌==◌, nat_lt, nat_le, cond, eqb, List, [], ◌∷◌, ◌++◌, length, slice_index, slice_set, get_or, replicate}
use Rattle.stm_core.specs.Client.{Client, Record, Stamp, word_before, old_version, RecordLaw}
use Rattle.stm_core.specs.Event.{Action, begin, probe, fetch, check, lock, tick, validate, put, release, give_back, finish, is_empty, Bounds, after, giving, fresh, taking, renewing, gone, opener}
use Rattle.stm_core.specs.Guards.{may_act, IsLawful}
use Rattle.stm_core.specs.declared.limits.TheConstants.{MOST_RENEWALS}
use Rattle.stm_core.specs.LockWord.{free_word}
use Rattle.stm_core.specs.declared.version.TheConstants.{VERSION_LIMIT}

-- the state of a region: its words, its clients' values, and the images on which it was opened
pub record Core : Type 0 where
  -- the image of the first opening, and all records of earlier renewals, in order
  pub first : List ℕ
  pub past : List Record
  -- the last version and the opening image of the present renewal
  pub last : ℕ
  pub opening : List ℕ
  -- the number of renewals of the clock so far
  pub renewal : ℕ
  -- the number of events so far, which is the position of the next event
  pub events : ℕ
  pub clock : ℕ
  pub locks : List ℕ
  pub cells : List ℕ
  pub clients : List Client

-- the last version of the present clock, the number of lock words, and the number of data words
abbrev pub bounds_of : Core → Bounds
bounds_of c = record { last = c.last; stripes = length c.locks; size = length c.cells }

-- the word that is in memory before the step
abbrev pub found : (ℕ → ℕ) → Core → Action → ℕ
found lk c begin = c.clock
found lk c (probe k) = slice_index c.locks k
found lk c (fetch a) = slice_index c.cells a
found lk c (check a) = slice_index c.locks (lk a)
found lk c (lock k) = slice_index c.locks k
found lk c (tick from tag writes) = c.clock
found lk c (validate k) = slice_index c.locks k
found lk c (put a x) = slice_index c.cells a
found lk c (release k) = slice_index c.locks k
found lk c (give_back k) = slice_index c.locks k
found lk c (finish tag) = c.clock

-- the word that the step leaves in memory if it found n
abbrev pub left : Action → ℕ → Client → ℕ
left (lock k) n v = cond (eqb n (word_before v.attempt.last)) (n + 1) n
left (tick from tag writes) n v = cond (eqb n from) (from + 1) n
left (put a x) n v = x
left (release k) n v = free_word v.attempt.wv
left (give_back k) n v = free_word (old_version v.attempt.held k)
left _ n v = n

-- the core after a step that leaves the word m
abbrev pub written : Action → ℕ → Core → Core
written (lock k) m c = record c { locks = slice_set c.locks k m }
written (tick from tag writes) m c = record c { clock = m }
written (put a x) m c = record c { cells = slice_set c.cells a m }
written (release k) m c = record c { locks = slice_set c.locks k m }
written (give_back k) m c = record c { locks = slice_set c.locks k m }
written _ m c = c

-- the core after a step of the client at index i, whose value is v
abbrev pub stepped : Stamp → (ℕ → ℕ) → Action → ℕ → Client → Core → Core
stepped s lk action i v c =
    let n = found lk c action in
    let d = written action (left action n v) c in
    record d { clients = slice_set c.clients i (after s lk action n v); events = c.events + 1 }

-- the core after the client at index i, whose value is v, split: the new client comes last
abbrev pub divided : ℕ → Client → Core → Core
divided i v c = record c {
  clients = slice_set c.clients i (giving v) ++ fresh v ∷ [];
  events = c.events + 1;
}

-- the core after the client at index i, whose value is v, gathered the client at index j, whose
-- value is w
abbrev pub gathered : ℕ → Client → ℕ → Client → Core → Core
gathered i v j w c = record c {
  clients = slice_set (slice_set c.clients i (taking v w)) j gone;
  events = c.events + 1;
}

-- the core after a renewal: the clock is 0 again, on the same data words, and all records now
-- belong to earlier renewals
abbrev pub renewed : ℕ → ℕ → Client → Core → Core
renewed i last v c = record c {
  past = v.records;
  last = last;
  opening = c.cells;
  renewal = c.renewal + 1;
  events = c.events + 1;
  clock = 0;
  locks = replicate (length c.locks) 0;
  clients = slice_set c.clients i (renewing v);
}

-- an event of a region: a step of a client, a split, a gathering or a renewal. Events name clients
-- by their numbers, from 1 on
pub data Event : Type 0 where
  acts : (client : ℕ) → Action → Event
  splits : (client : ℕ) → Event
  gathers : (client other : ℕ) → Event
  renews : (client last : ℕ) → Event

-- the client is out, and holds no lock
abbrev pub IsFreeHanded : Client → Type 0
IsFreeHanded v = (v.is_gathered ≡ false) × (v.attempt.held ≡ [])

-- the value of the client with this number, or `gone` if there is no such client
abbrev pub client_of : Core → ℕ → Client
client_of c k = get_or c.clients (k - 1) gone

-- the stamp of the next step of a client
abbrev pub stamp_of : Core → ℕ → Stamp
stamp_of c k = record { client = k; place = c.events; renewal = c.renewal }

-- true if a client has this number and is not gathered
abbrev pub is_out : Core → ℕ → Bool
is_out c k = nat_lt 0 k && nat_lt (k - 1) (length c.clients) && not (client_of c k).is_gathered

-- true if every client of the list is gathered
abbrev pub are_gathered : List Client → Bool
are_gathered [] = true
are_gathered (v ∷ vs) = v.is_gathered && are_gathered vs

-- true if every client but the one at index i is gathered
abbrev pub others_gathered : List Client → ℕ → Bool
others_gathered [] i = true
others_gathered (v ∷ vs) zero = are_gathered vs
others_gathered (v ∷ vs) (suc i) = v.is_gathered && others_gathered vs i

-- true if the event may come next, apart from what the law asks of records
abbrev pub may_play : (ℕ → ℕ) → Event → Core → Bool
may_play lk (acts k action) c =
    is_out c k && may_act lk (bounds_of c) action (client_of c k).attempt
may_play lk (splits k) c =
    is_out c k && is_empty (client_of c k).attempt.held && nat_lt 0 (client_of c k).grants
may_play lk (gathers k j) c =
    is_out c k && is_out c j && not (k == j) && is_empty (client_of c k).attempt.held
    && is_empty (client_of c j).attempt.held
may_play lk (renews k last) c =
    is_out c k && is_empty (client_of c k).attempt.held && others_gathered c.clients (k - 1)
    && nat_le 1 last && nat_lt last VERSION_LIMIT && nat_lt c.renewal MOST_RENEWALS

module _ (lawful : RecordLaw) where
  -- the record that the event would make, if any, is lawful
  abbrev pub MakesLawful : Event → Core → Type 0
  MakesLawful (acts k action) c = IsLawful lawful action (client_of c k).attempt
  MakesLawful _ c = Unit {0}

  -- the event may come next, and the record that it would make, if any, is lawful
  abbrev pub Allowed : (ℕ → ℕ) → Event → Core → Type 0
  Allowed lk e c = (may_play lk e c ≡ true) × MakesLawful e c

-- the core after an event
abbrev pub played : (ℕ → ℕ) → Event → Core → Core
played lk (acts k action) c =
    let s : Stamp = record { client = k; place = c.events; renewal = c.renewal } in
    stepped s lk action (k - 1) (client_of c k) c
played lk (splits k) c = divided (k - 1) (client_of c k) c
played lk (gathers k j) c = gathered (k - 1) (client_of c k) (j - 1) (client_of c j) c
played lk (renews k last) c = renewed (k - 1) last (client_of c k) c

-- the list of events is allowed event by event from the first core on, and leads to the second
-- core
abbrev pub Leads : RecordLaw → (ℕ → ℕ) → Core → List Event → Core → Type 0
Leads lawful lk c [] d = c ≡ d
Leads lawful lk c (e ∷ es) d = Allowed lawful lk e c × Leads lawful lk (played lk e c) es d

-- a core just opened on an image
abbrev pub opened : List ℕ → ℕ → ℕ → Core
opened image last stripes = record {
  first = image;
  past = [];
  last = last;
  opening = image;
  renewal = 0;
  events = 0;
  clock = 0;
  locks = replicate stripes 0;
  cells = image;
  clients = opener ∷ [];
}

-- a core opened on an image after some renewals that began on a first image, with one client,
-- which has all records
abbrev pub begun_on : List ℕ → List ℕ → ℕ → ℕ → ℕ → Client → Core
begun_on first image renewal last stripes v = record {
  first = first;
  past = v.records;
  last = last;
  opening = image;
  renewal = renewal;
  events = 0;
  clock = 0;
  locks = replicate stripes 0;
  cells = image;
  clients = v ∷ [];
}
