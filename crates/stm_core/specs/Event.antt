-- The steps of one client on a word, and the client's value after each step.
use Rattle.std.specs.Prelude.{ℕ, ◌+◌, ◌-◌, max, Bool, true, false, cond, eqb, leb, ◌||◌, ◌&&◌, List, [], ◌∷◌, ◌++◌, length}
use Rattle.stm_core.specs.Client.{Attempt, Client, Record, idle, running, ending, committed, finished, Step, nothing, began, probed, fetched, checked, locked, ticked, validated, ended, Stamp, version_of, is_free, writes_to, without, word_before, value_fetched, inserted, merged, given_up, all_aborted}
use Rattle.stm_core.specs.declared.limits.TheConstants.{MOST_GRANTS}

-- one step of one client: an atomic load, store or read-modify-write of one word
pub data Action : Type 0 where
  begin : Action
  probe : (lock : ℕ) → Action
  fetch : (address : ℕ) → Action
  check : (address : ℕ) → Action
  lock : (lock : ℕ) → Action
  tick : (from : ℕ) → (tag : List ℕ) → (writes : List (ℕ × ℕ)) → Action
  validate : (lock : ℕ) → Action
  put : (address value : ℕ) → Action
  release : (lock : ℕ) → Action
  give_back : (lock : ℕ) → Action
  finish : (tag : List ℕ) → Action

-- the bounds of a region's events: the last version, the number of locks and the number of words.
-- The lock of an address (`lk`) and the law of records are parameters of their own
pub record Bounds : Type 0 where
  pub last : ℕ
  pub stripes : ℕ
  pub size : ℕ

-- the record of an attempt that commits as a writer; its point is the tick that the attempt won
abbrev pub writer_record : Stamp → Attempt → Record
writer_record s t = record {
  tag = t.tag;
  reads = t.reads;
  writes = t.writes;
  writer = true;
  version = t.wv;
  attempt = t.number;
  renewal = s.renewal;
  point = t.ticked_at;
  client = s.client;
}

-- the record of an attempt that finishes as a reader with this tag; its point is the attempt's
-- begin
abbrev pub reader_record : Stamp → List ℕ → Attempt → Record
reader_record s tag t = record {
  tag = tag;
  reads = t.reads;
  writes = [];
  writer = false;
  version = t.rv;
  attempt = t.number;
  renewal = s.renewal;
  point = t.began_at;
  client = s.client;
}

-- the attempt of a client that has begun none
abbrev pub idle_attempt : Attempt
idle_attempt = record {
  number = 0;
  phase = idle;
  rv = 0;
  reads = [];
  last = nothing;
  gave_back = false;
  mine = false;
  held = [];
  wv = 0;
  tag = [];
  writes = [];
  passed = 0;
  stored = [];
  ticks = 0;
  next_from = 0;
  lone = false;
  steps = 0;
  renewal = 0;
  began_at = 0;
  ticked_at = 0;
}

-- the client with its attempt changed by a function
abbrev pub on_attempt : (Attempt → Attempt) → Client → Client
on_attempt f v = record v { attempt = f v.attempt }

-- the attempt with its last step forgotten
abbrev pub forgetting : Attempt → Attempt
forgetting t = record t { last = nothing; gave_back = false; mine = false }

-- the client as a decided writer, with its record added
abbrev pub committed_by : Stamp → Client → Client
committed_by s v = record v {
  records = inserted (writer_record s v.attempt) v.records;
  attempt = record v.attempt { phase = committed; stored = [] };
}

-- the client with a new attempt, whose read version is the clock's value n. The attempt before is
-- aborted unless it is settled
abbrev pub begun : Stamp → ℕ → Client → Client
begun s n v = record v {
  floor = n;
  aborted = given_up v;
  attempt = record idle_attempt {
    number = v.attempt.number + 1;
    phase = running;
    rv = n;
    last = began n;
    held = v.attempt.held;
    next_from = n;
    lone = eqb v.grants MOST_GRANTS;
    steps = 1;
    renewal = s.renewal;
    began_at = s.place;
  };
}

-- the client after one more step
abbrev pub stepping : Step → Client → Client
stepping l = on_attempt (λ t. record (forgetting t) { last = l; steps = t.steps + 1 })

-- the client with a mark that says whether the lock of its last step was its own
abbrev pub marking : Bool → Client → Client
marking mine = on_attempt (λ t. record t { mine = mine })

-- the client with an attempt that can only abort
abbrev pub failing : Client → Client
failing = on_attempt (λ t. record t { phase = ending })

-- the client with value x at address a added to its checked reads
abbrev pub read_too : ℕ → ℕ → Client → Client
read_too a x = on_attempt (λ t. record t { reads = t.reads ++ (a, x) ∷ [] })

-- the client that also holds lock k, with the old version u
abbrev pub holding : ℕ → ℕ → Client → Client
holding k u = on_attempt (λ t. record t { held = t.held ++ (k, u) ∷ [] })

-- the client with one more validation passed
abbrev pub counting : Client → Client
counting = on_attempt (λ t. record t { passed = t.passed + 1 })

-- the client with this number of ticks tried, and the clock value from which its next tick starts
abbrev pub with_ticks : ℕ → ℕ → Client → Client
with_ticks ticks from = on_attempt (λ t. record t { ticks = ticks; next_from = from })

-- the client that has won the tick to version n, before the decision
abbrev pub versioned : Stamp → ℕ → List ℕ → List (ℕ × ℕ) → Client → Client
versioned s n tag writes v = record v {
  floor = n;
  attempt = record v.attempt {
    wv = n;
    tag = tag;
    writes = writes;
    passed = 0;
    stored = [];
    ticked_at = s.place;
  };
}

-- true if the list has no pairs
abbrev pub is_empty : List (ℕ × ℕ) → Bool
is_empty [] = true
is_empty (p ∷ ps) = false

-- true if the won tick decides at once: the attempt has read nothing, or the write version follows
-- the read version
abbrev pub decides_at_once : Client → Bool
decides_at_once v = is_empty v.attempt.reads || eqb v.attempt.wv (v.attempt.rv + 1)

-- the client that has won the tick to version n; it is a decided writer if the tick decides at
-- once
abbrev pub won : Stamp → ℕ → List ℕ → List (ℕ × ℕ) → Client → Client
won s n tag writes v =
    let w = versioned s n tag writes v in cond (decides_at_once w) (committed_by s w) w

-- true if a validation of lock k that finds the word n passes: the lock is free or the client's
-- own, with a version of at most the read version
abbrev pub passes : ℕ → ℕ → Client → Bool
passes k n v = (is_free n || writes_to v.attempt.held k) && leb (version_of n) v.attempt.rv

-- the client with one more validation passed; it is a decided writer if that was the last
-- validation
abbrev pub passing : Stamp → Client → Client
passing s v =
    let w = counting v in
    cond (eqb w.attempt.passed (length v.attempt.reads)) (committed_by s w) w

-- the record that a step decides, as a list of one or none
abbrev pub decision : Stamp → Action → ℕ → Client → List Record
decision s (tick from tag writes) n v =
    let w = versioned s (from + 1) tag writes v in
    cond (eqb n from) (cond (decides_at_once w) (writer_record s w.attempt ∷ []) []) []
decision s (validate k) n v =
    let w = counting v in
    cond (passes k n v)
    (cond (eqb w.attempt.passed (length v.attempt.reads)) (writer_record s v.attempt ∷ []) []) []
decision s (finish tag) n v = reader_record s tag v.attempt ∷ []
decision s _ n v = []

-- the client's value after a step that found the word n
abbrev pub after : Stamp → (ℕ → ℕ) → Action → ℕ → Client → Client
after s lk begin n v = begun s n v
after s lk (probe k) n v = marking (writes_to v.attempt.held k) (stepping (probed k n) v)
after s lk (fetch a) n v = stepping (fetched a (word_before v.attempt.last) n) v
after s lk (check a) n v =
    let m = word_before v.attempt.last in
    stepping (checked a m n)
    (cond (eqb n m) (read_too a (value_fetched v.attempt.last) v) (failing v))
after s lk (lock k) n v =
    let m = word_before v.attempt.last in
    stepping (locked k m n) (cond (eqb n m) (holding k (version_of n) v) (failing v))
after s lk (tick from tag writes) n v =
    let w = cond (eqb n from) (won s (from + 1) tag writes v) v in
    with_ticks (v.attempt.ticks + 1) n (stepping (ticked from n) w)
after s lk (validate k) n v =
    let w = cond (passes k n v) (passing s v) (failing v) in
    marking (writes_to v.attempt.held k) (stepping (validated k n) w)
after s lk (put a x) n v =
    on_attempt (λ t. record t { stored = t.stored ++ a ∷ [] }) (stepping nothing v)
after s lk (release k) n v =
    on_attempt (λ t. record t { held = without t.held k }) (stepping nothing v)
after s lk (give_back k) n v = record v {
  attempt = record v.attempt {
    held = without v.attempt.held k;
    wv = 0;
    tag = [];
    writes = [];
    passed = 0;
    phase = ending;
    gave_back = true;
    steps = v.attempt.steps + 1;
  };
}
after s lk (finish tag) n v =
    let w = stepping (ended n) v in
    record w {
      records = inserted (reader_record s tag v.attempt) v.records;
      attempt = record w.attempt { phase = finished };
    }

-- the client with one grant fewer, which went to a new client. It is not solo any more
abbrev pub giving : Client → Client
giving v = record v {
  grants = v.grants - 1;
  attempt = record (forgetting v.attempt) { lone = false };
}

-- the first client of a region just opened
abbrev pub opener : Client
opener = record {
  grants = MOST_GRANTS;
  is_gathered = false;
  floor = 0;
  records = [];
  aborted_before = [];
  aborted = [];
  attempt = idle_attempt;
}

-- a new client: no records, no grants, and the floor of the client that split it off
abbrev pub fresh : Client → Client
fresh v = record opener { grants = 0; floor = v.floor }

-- the client with the other client's records, aborted attempts and grants, and the grant of that
-- client itself
abbrev pub taking : Client → Client → Client
taking v w = record v {
  grants = v.grants + w.grants + 1;
  floor = max v.floor w.floor;
  records = merged v.records w.records;
  aborted_before = v.aborted_before ++ w.aborted_before;
  aborted = v.aborted ++ given_up w;
  attempt = forgetting v.attempt;
}

-- a client after a renewal of the clock: no attempt, and its grants, its attempt's number, its
-- records and all its aborted attempts as before
abbrev pub renewing : Client → Client
renewing v = record opener {
  grants = v.grants;
  records = v.records;
  aborted_before = all_aborted v;
  attempt = record idle_attempt { number = v.attempt.number };
}

-- the value of a gathered client
abbrev pub gone : Client
gone = record opener { grants = 0; is_gathered = true }
