-- Lists of events and the cores that they lead to, with a number in the place of each tag. No
-- condition of an event looks at a tag, except the law.
use Rattle.std.specs.Prelude.{◌≡◌, ℕ, ◌<◌, ◌≤◌, cond, eqb, true, List, [], ◌∷◌, length, map}
use Rattle.tx_memory.specs.Image.{In}
use Rattle.stm_core.specs.Client.{Client, Record, RecordLaw}
use Rattle.stm_core.specs.Event.{Action, tick, finish}
use Rattle.stm_core.specs.Core.{Core, Event, acts}
use Rattle.stm_core.specs.Version.{At}
use Rattle.stm_core.specs.History.{Serial}
use Rattle.stm_core.specs.Theorem.{free_law, Reaches, IsHistory}
use Rattle.stm_replay.specs.Running.{Running, stripes_of, may_run, run_played, run_opened, ran, shown_core}
use Rattle.stm_replay.specs.Played.{event_of}
use Rattle.stm_replay.specs.declared.event.Event as declared
use Rattle.stm_replay.specs.declared.limits.TheConstants.{MOST_CLIENTS}

module _ (number : List ℕ → ℕ) where
  -- the step with a number for its tag
  abbrev pub numbered_action : Action → Action
  numbered_action (tick from tag writes) = tick from (number tag ∷ []) writes
  numbered_action (finish tag) = finish (number tag ∷ [])
  numbered_action e = e

  -- the event with a number for its tag
  abbrev pub numbered_event : Event → Event
  numbered_event (acts k e) = acts k (numbered_action e)
  numbered_event e = e

  -- the record with a number for its tag
  abbrev pub numbered_record : Record → Record
  numbered_record r = record r { tag = number r.tag ∷ [] }

  -- the client with a number for the tag of each of its records, and, if the client has a write
  -- version, for the tag of its won tick
  abbrev pub numbered_client : Client → Client
  numbered_client v = record v {
    records = map numbered_record v.records;
    attempt = record v.attempt {
      tag = cond (eqb v.attempt.wv 0) [] (number v.attempt.tag ∷ []);
    };
  }

  -- the core with numbers for the tags of its past records and of its clients
  abbrev pub numbered_core : Core → Core
  numbered_core c = record c {
    past = map numbered_record c.past;
    clients = map numbered_client c.clients;
  }

-- the tags that a list of events carries, in the order of the events
abbrev pub tags_of : List Event → List (List ℕ)
tags_of [] = []
tags_of (acts k (tick from tag writes) ∷ es) = tag ∷ tags_of es
tags_of (acts k (finish tag) ∷ es) = tag ∷ tags_of es
tags_of (e ∷ es) = tags_of es

-- different tags of the list have different numbers
abbrev pub TellsApart : (List ℕ → ℕ) → List (List ℕ) → Type 0
TellsApart number tags = (s t : List ℕ) → In s tags → In t tags → number s ≡ number t → s ≡ t

-- for every list of events there is a numbering that tells its tags apart; each number is below
-- the number of events
abbrev pub EveryListHasNumbers : Type 0
EveryListHasNumbers = (events : List Event)
    → (number : List ℕ → ℕ) × TellsApart number (tags_of events)
    × ((t : List ℕ) → In t (tags_of events) → number t < length events)

-- for every event, some event of the running core over any allocator stands for the event with a
-- number for its tag
abbrev pub EveryEventIsPlayable : Type 0 → Type 0
EveryEventIsPlayable A =
    (number : List ℕ → ℕ) (e : Event)
    → (d : declared.Event A) × (event_of d ≡ numbered_event number e)

-- each event of the list may be played by the running core when its turn comes
abbrev pub MayRunInTurn : List Event → Running → Type 0
MayRunInTurn [] s = Unit {0}
MayRunInTurn (e ∷ es) s =
    (may_run (stripes_of s.core) e s.core ≡ true) × MayRunInTurn es (run_played e s)

module _ (lawful : RecordLaw) where
  -- a list of events that is allowed under the law stays allowed under the law that allows every
  -- record, with any numbers for its tags, and leads to the same core but for the tags
  abbrev pub AllowedWithNumbers : Type 0
  AllowedWithNumbers =
      (number : List ℕ → ℕ) (image : List ℕ) (last stripes : ℕ) (events : List Event) (c : Core)
      → Reaches lawful image last stripes events c
      → Reaches free_law image last stripes (map (numbered_event number) events)
      (numbered_core number c)

  -- the running core plays the list with numbers for its tags, if all clients have their numbers,
  -- and then shows the core with numbers for its tags
  -- Not said: that the values in the events fit 64 bits.
  abbrev pub PlayedWithNumbers : Type 0
  PlayedWithNumbers =
      (number : List ℕ → ℕ) (image : List ℕ) (last stripes : ℕ) (events : List Event) (c : Core)
      → Reaches lawful image last stripes events c
      → (length c.clients ≤ MOST_CLIENTS
      → MayRunInTurn (map (numbered_event number) events) (run_opened image last stripes))
      × ((ran (map (numbered_event number) events) (run_opened image last stripes)).core
      ≡ shown_core (numbered_core number c))

  -- in the core that the list with numbers leads to, each client has the same records but for
  -- their tags
  abbrev pub SameButTags : Type 0
  SameButTags =
      (number : List ℕ → ℕ) (image : List ℕ) (last stripes : ℕ) (events : List Event) (c d : Core)
      → Reaches lawful image last stripes events c
      → Reaches free_law image last stripes (map (numbered_event number) events) d
      → (i : ℕ) (v : Client) → At c.clients i v
      → (w : Client) × At d.clients i w × (w.records ≡ map (numbered_record number) v.records)

  -- the records are the history of the core and serial from the image; each record is lawful and
  -- has one of the tags
  pub record IsLegal
      (image : List ℕ) (tags : List (List ℕ)) (c : Core) (rs : List Record) : Type 0 where
    pub is_history : IsHistory c rs
    pub serial : Serial image rs
    pub abides : (r : Record) → In r rs → lawful r.tag r.reads r.writes
    pub tagged : (r : Record) → In r rs → In r.tag tags

  -- a list of events that is allowed under the law leads to a core with a serial history of lawful
  -- records, each with a tag of the list. The same records with numbers for their tags are the
  -- history of the core with numbers for its tags
  abbrev pub LegalHistories : Type 0
  LegalHistories = (image : List ℕ) (last stripes : ℕ) (events : List Event) (c : Core)
      → Reaches lawful image last stripes events c
      → (rs : List Record) × IsLegal image (tags_of events) c rs
      × ((number : List ℕ → ℕ)
      → IsHistory (numbered_core number c) (map (numbered_record number) rs))
