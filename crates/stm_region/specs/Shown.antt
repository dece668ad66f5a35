-- A region and its clients as contracts see them.
use Rattle.std.specs.Prelude.{◌≡◌, ◌≢◌, ℕ, ◌+◌, ◌<◌, min, length, List, [], Option, None, Some, Result, MatchResult}
use Rattle.std.specs.Borrow.{MutBor}
use Rattle.atomic_table.specs.Seated.{TableId}
use Rattle.stm_core.specs.Client.{Client, Stamp, Step, probed, RecordLaw}
use Rattle.stm_core.specs.Guards.{May, stripe_of}
use Rattle.stm_core.specs.Event.{Action, Bounds, after, giving, fresh, taking, renewing, opener}
use Rattle.stm_region.specs.declared.limits.TheConstants.{MOST_GRANTS}

-- the opening of a region: the data words, the last version and the number of lock words. After
-- renewals also: the data words of the first opening, the number of renewals, and the value of the
-- opening client, which has all records of earlier renewals
pub record Opened : Type 0 where
  pub image : List ℕ
  pub last : ℕ
  pub stripes : ℕ
  pub first : List ℕ
  pub renewal : ℕ
  pub start : Client

-- a region: its table, its number of data words, and its opening
pub record RegionShown : Type 0 where
  pub table : TableId
  pub size : ℕ
  pub last : ℕ
  pub stripes : ℕ
  pub opening : List ℕ
  pub first : List ℕ
  pub renewal : ℕ
  pub start : Client

-- a client: its table and its value
pub record ClientShown : Type 0 where
  pub table : TableId
  pub value : Client

-- a table that belongs to no region
abbrev pub no_table : TableId
no_table = record {
  words = 0;
  slots = 0;
  views_name = 0;
  atom = 0;
  block = 0;
  offset = 0;
  slot_names = [];
}

-- the value that stands for no region
abbrev pub nowhere : RegionShown
nowhere = record {
  table = no_table;
  size = 0;
  last = 0;
  stripes = 0;
  opening = [];
  first = [];
  renewal = 0;
  start = opener;
}

-- the opening of a region, as the invariant of its table was given it
abbrev pub opened_with : RegionShown → Opened
opened_with r = record {
  image = r.opening;
  last = r.last;
  stripes = r.stripes;
  first = r.first;
  renewal = r.renewal;
  start = r.start;
}

-- the region that a table shows, with the region's own numbers
abbrev pub region_of : TableId → ℕ → ℕ → ℕ → Opened → RegionShown
region_of table size last stripes o = record {
  table = table;
  size = size;
  last = last;
  stripes = stripes;
  opening = o.image;
  first = o.first;
  renewal = o.renewal;
  start = o.start;
}

-- a region that was opened on an image, before any renewal
abbrev pub opened_on : TableId → List ℕ → ℕ → ℕ → RegionShown
opened_on table image last stripes = record {
  table = table;
  size = length image;
  last = last;
  stripes = stripes;
  opening = image;
  first = image;
  renewal = 0;
  start = opener;
}

-- the bounds of a region's events: its last version, its numbers of lock words and of data words
abbrev pub bounds : RegionShown → Bounds
bounds r = record { last = r.last; stripes = r.stripes; size = r.size }

-- the stamp of a region's step: the region keeps no position in a list of events and no client
-- number
abbrev pub unplaced : ℕ → Stamp
unplaced n = record { client = 0; place = 0; renewal = n }

-- the client's value allows the step in the region
abbrev pub MayStep : RecordLaw → RegionShown → Action → Client → Type 0
MayStep lawful r step v = May lawful (stripe_of r.stripes) (bounds r) step v

-- the client allows the step in the region
abbrev pub IsAllowed : RecordLaw → RegionShown → Action → ClientShown → Type 0
IsAllowed lawful r step c = May lawful (stripe_of r.stripes) (bounds r) step c.value

-- the client's value after a step that found this word
abbrev pub value_after : RegionShown → Action → ℕ → Client → Client
value_after r step word v = after (unplaced r.renewal) (stripe_of r.stripes) step word v

-- the client after a step that found this word
abbrev pub acted : RegionShown → Action → ℕ → ClientShown → ClientShown
acted r step word c = record c {
  value = after (unplaced r.renewal) (stripe_of r.stripes) step word c.value;
}

-- the client after a compare-and-exchange of this word, which succeeded or found another word
abbrev pub Exchanged : {A : Type 0} → RegionShown → Action → ℕ → Result A ℕ → ClientShown →
    ClientShown → Type 0
Exchanged r step word result before now =
    MatchResult result (λ _. now ≡ acted r step word before)
    (λ found. (found ≢ word) × (now ≡ acted r step found before))

-- the client that a value whose first field refers to it leaves when the value ends
abbrev pub client_left : {B : Type 0} → MutBor ClientShown × B → ClientShown
client_left exit = exit.0.now

-- the client split another client off, which cost one grant
abbrev pub HasSplit : ClientShown → ClientShown → ClientShown → Type 0
HasSplit before now other =
    (0 < before.value.grants) × (now ≡ record before { value = giving before.value })
    × (other ≡ record before { value = fresh before.value })

-- a client with the records and grants of another client, and one grant more. The number of grants
-- never exceeds the most: the grants of all clients that are out, with one for each of these
-- clients, make 64
abbrev pub with_gathered : Client → Client → Client
with_gathered v w = record (taking v w) { grants = min (v.grants + w.grants + 1) MOST_GRANTS }

-- if the step is a probe, it found this word
abbrev pub KeepsProbe : ℕ → Step → Type 0
KeepsProbe word last = (lock found : ℕ) → last ≡ probed lock found → word ≡ found

-- the words of the first opening: those kept by a renewed region, else those of this opening
abbrev pub first_words : List ℕ → Option (List ℕ) → List ℕ
first_words image None = image
first_words image (Some words) = words

-- the value of a region's first client: that of the client that closed the region before, without
-- its attempt, or that of a new client
abbrev pub started : Option Client → Client
started None = opener
started (Some v) = renewing v
