-- The conditions and the effects of the parts of a commit, in terms of the client's value.
use Rattle.std.specs.Prelude.{◌≡◌, ◌≢◌, ◌⊎◌, ℕ, ◌+◌, ◌*◌, ◌<◌, ◌≤◌, Bool, true, false, ◌||◌, cond, eqb, List, [], ◌∷◌, ◌++◌, length, take, Option, None}
use Rattle.std.specs.FinMap.{len}
use Rattle.tx_memory.specs.Image.{In}
use Rattle.stm_core.specs.declared.limits.TheConstants.{MOST_TICKS}
use Rattle.stm_core.specs.Client.{Client, RecordLaw, running, ending, committed, decided, inserted, writes_to}
use Rattle.stm_core.specs.Event.{is_empty}
use Rattle.stm_logs.specs.Log.{LogValue, log_pairs, log_locks}
use Rattle.stm_region.specs.Shown.{RegionShown}
use Rattle.stm_attempt.specs.Begun.{AreInside, IsPlaced, IsRunning, addresses}
use Rattle.stm_attempt.specs.Committing.{IsSameAttempt, settling, ticked_record, HasWonLock, IsCommitStop, IsCounted}
use Rattle.stm_attempt.specs.declared.conflict.Conflict.{Conflict}
use Rattle.stm_attempt.specs.declared.conflict.Stop.{Stop}

-- the attempt may end: it has begun at rv and read inside the region. Unless a read met a
-- conflict, the read log has the addresses of the reads, and the record with the log's writes is
-- lawful
pub record CanEnd (lawful : RecordLaw) (region : RegionShown) (tag : List ℕ) (v : Client) (rv : ℕ)
    (stopped : Option Conflict) (logged : List ℕ) (log : LogValue) : Type 0 where
  pub running : IsRunning region v rv stopped
  pub known : rv ≤ region.last
  pub inside : AreInside region.size v.attempt.reads
  pub reads : stopped ≡ None → logged ≡ addresses v.attempt.reads
  pub placed : IsPlaced region log
  pub allowed : stopped ≡ None → lawful tag v.attempt.reads (log_pairs log)

-- a writer may commit: the attempt has begun at rv and only read, inside the region
pub record IsReady (region : RegionShown) (v : Client) (rv : ℕ) : Type 0 where
  pub out : v.is_gathered ≡ false
  pub reading : (v.attempt.phase ≡ running) × (v.attempt.wv ≡ 0)
  pub begun_at : v.attempt.rv ≡ rv
  pub known : v.floor ≡ rv
  pub unticked : v.attempt.ticks ≡ 0
  pub from : v.attempt.next_from ≡ rv
  pub range : rv ≤ region.last
  pub inside : AreInside region.size v.attempt.reads

-- the logs have the addresses of the reads, and some writes with the locks that they need
pub record IsLogged (region : RegionShown) (v : Client) (logged : List ℕ)
    (log : LogValue) : Type 0 where
  pub reads : logged ≡ addresses v.attempt.reads
  pub placed : IsPlaced region log
  pub written : len log.words ≢ 0

-- the attempt may validate its reads: there are some, the clock is ticked, and no read is
-- validated yet
pub record CanValidate (region : RegionShown) (v : Client) (rv : ℕ) : Type 0 where
  pub out : v.is_gathered ≡ false
  pub phase : v.attempt.phase ≡ running
  pub versioned : 0 < v.attempt.wv
  pub unvalidated : v.attempt.passed ≡ 0
  pub unplaced : v.attempt.ticked_at ≡ 0
  pub begun_at : v.attempt.rv ≡ rv
  pub some : v.attempt.reads ≢ []
  pub inside : AreInside region.size v.attempt.reads

-- the attempt is decided and holds its locks, and no value is stored yet
pub record CanSettle (v : Client) (log : LogValue) : Type 0 where
  pub out : v.is_gathered ≡ false
  pub phase : v.attempt.phase ≡ committed
  pub stored : v.attempt.stored ≡ []
  pub writes : v.attempt.writes ≡ log_pairs log
  pub held : addresses v.attempt.held ≡ log_locks log

-- an upper bound of the client's steps at the end of a writer's commit
abbrev pub commit_bound : Client → LogValue → ℕ
commit_bound v log = v.attempt.steps + length v.attempt.reads + 4 * len log.words + MOST_TICKS

-- the client may take locks
abbrev pub CanLock : Client → Type 0
CanLock v = (v.is_gathered ≡ false) × ((v.attempt.phase ≡ running) × (v.attempt.wv ≡ 0))

-- the client holds no lock from this number on
abbrev pub IsAbove : Client → ℕ → Type 0
IsAbove v lock = (j u : ℕ) → In (j, u) v.attempt.held → j < lock

-- the client holds one lock more than before
pub record HasTaken (v v' : Client) (lock : ℕ) : Type 0 where
  pub same : settling v' ≡ settling v
  pub stored : v'.attempt.stored ≡ v.attempt.stored
  pub held : addresses v'.attempt.held ≡ addresses v.attempt.held ++ lock ∷ []
  pub won : HasWonLock v'
  pub steps : v'.attempt.steps ≡ v.attempt.steps + 2

-- the client holds all locks of the log, and `taken` is their number
pub record HasTakenAll (v v' : Client) (log : LogValue) (taken : ℕ) : Type 0 where
  pub same : settling v' ≡ settling v
  pub stored : v'.attempt.stored ≡ v.attempt.stored
  pub count : taken ≡ length (log_locks log)
  pub won : 0 < taken → HasWonLock v'
  pub steps : v'.attempt.steps ≡ v.attempt.steps + 2 * taken

-- the client may give back its locks
abbrev pub MayGiveBack : Client → Type 0
MayGiveBack v = (v.is_gathered ≡ false) × ((v.attempt.phase ≡ running) ⊎ (v.attempt.phase ≡ ending))

-- a step of a commit failed: the locks are held as before, and may be given back
pub record HasFailed (v v' : Client) : Type 0 where
  pub same : IsSameAttempt v v'
  pub records : v'.records ≡ v.records
  pub held : v'.attempt.held ≡ v.attempt.held
  pub floor : v'.floor ≡ v.floor
  pub able : MayGiveBack v'
  pub unversioned : v'.attempt.wv ≡ 0

-- a lock could not be taken after `taken` locks were; the client may give back its locks
pub record HasFailedLocking (v v' : Client) (taken : ℕ) : Type 0 where
  pub same : IsSameAttempt v v'
  pub records : v'.records ≡ v.records
  pub floor : v'.floor ≡ v.floor
  pub able : MayGiveBack v'
  pub unversioned : v'.attempt.wv ≡ 0
  pub steps : v'.attempt.steps ≤ v.attempt.steps + 2 * taken + 2

-- `taken` locks were taken, in the order of all, and the rest is left to take
pub record IsClimbing (v v' : Client) (taken : ℕ) (rest all : List ℕ) : Type 0 where
  pub same : settling v' ≡ settling v
  pub stored : v'.attempt.stored ≡ v.attempt.stored
  pub held : addresses v'.attempt.held ++ rest ≡ all
  pub count : taken ≡ length (addresses v'.attempt.held)
  pub won : 0 < taken → HasWonLock v'
  pub steps : v'.attempt.steps ≡ v.attempt.steps + 2 * taken

-- the client's value without the fields that giving back locks changes
abbrev pub returned : Client → Client
returned v = record v {
  attempt = record v.attempt {
    phase = running;
    gave_back = false;
    held = [];
    wv = 0;
    tag = [];
    writes = [];
    passed = 0;
    steps = 0;
  };
}

-- the held locks are the first `left` ones of the rest, and are still to be given back
pub record IsReturning (v v' : Client) (count left : ℕ) (rest all : List ℕ) : Type 0 where
  pub gone : List ℕ
  pub order : gone ++ rest ≡ all
  pub same : returned v' ≡ returned v
  pub able : MayGiveBack v'
  pub held : addresses v'.attempt.held ≡ take left rest
  pub few : left ≤ length rest
  pub gave_back : left < count → v'.attempt.gave_back ≡ true
  pub steps : v'.attempt.steps + left ≡ v.attempt.steps + count

-- true if a won tick decides the attempt at once: nothing was read, or the write version is the
-- next after the read version
abbrev pub is_at_once : Client → ℕ → Bool
is_at_once v version = is_empty v.attempt.reads || eqb version (v.attempt.rv + 1)

-- the clock was ticked to a write version above the read version, for a record of this tag and
-- these writes. If the attempt is solo, the tick decided it
pub record HasTicked (region : RegionShown) (tag : List ℕ) (writes : List (ℕ × ℕ))
    (v v' : Client) (version : ℕ) : Type 0 where
  pub same : IsSameAttempt v v'
  pub held : v'.attempt.held ≡ v.attempt.held
  pub versioned : v'.attempt.wv ≡ version
  pub tagged : v'.attempt.tag ≡ tag
  pub writing : v'.attempt.writes ≡ writes
  pub known : v'.floor ≡ version
  pub unstored : v'.attempt.stored ≡ []
  pub unvalidated : v'.attempt.passed ≡ 0
  pub unplaced : v'.attempt.ticked_at ≡ 0
  pub phase : v'.attempt.phase ≡ cond (is_at_once v version) committed running
  pub records : v'.records ≡ cond (is_at_once v version)
      (inserted (ticked_record region tag v writes version) v.records) v.records
  pub later : v.attempt.rv < version
  pub lone : v.attempt.lone ≡ true → decided v' ≡ true

-- no tick was won: the locks are held as before, and the last step shows why
pub record HasFailedTicking (region : RegionShown) (log : LogValue) (stop : Stop)
    (v v' : Client) : Type 0 where
  pub failed : HasFailed v v'
  pub shown : IsCommitStop region log stop v'
  pub counted : IsCounted stop v.attempt.steps v'

-- the locks of all reads were validated, and the last validation decided the attempt
pub record HasValidated (region : RegionShown) (v v' : Client) : Type 0 where
  pub same : IsSameAttempt v v'
  pub held : v'.attempt.held ≡ v.attempt.held
  pub versioned : v'.attempt.wv ≡ v.attempt.wv
  pub tagged : v'.attempt.tag ≡ v.attempt.tag
  pub writing : v'.attempt.writes ≡ v.attempt.writes
  pub unplaced : v'.attempt.ticked_at ≡ v.attempt.ticked_at
  pub known : v'.floor ≡ v.floor
  pub unstored : v'.attempt.stored ≡ []
  pub phase : v'.attempt.phase ≡ committed
  pub records : v'.records
      ≡ inserted (ticked_record region v.attempt.tag v v.attempt.writes v.attempt.wv) v.records
  pub steps : v'.attempt.steps ≡ v.attempt.steps + length v.attempt.reads

-- a validation failed: the locks are held as before, and may be given back
pub record HasFailedValidating (v v' : Client) : Type 0 where
  pub same : IsSameAttempt v v'
  pub records : v'.records ≡ v.records
  pub held : v'.attempt.held ≡ v.attempt.held
  pub floor : v'.floor ≡ v.floor
  pub able : MayGiveBack v'
  pub steps : v'.attempt.steps ≤ v.attempt.steps + length v.attempt.reads

-- every written value is stored
abbrev pub IsAllStored : Client → Type 0
IsAllStored v =
    (address : ℕ) → writes_to v.attempt.writes address ≡ true → In address v.attempt.stored

-- all written values were stored, one step each
pub record HasStored (v v' : Client) : Type 0 where
  pub same : settling v' ≡ settling v
  pub held : v'.attempt.held ≡ v.attempt.held
  pub every : IsAllStored v'
  pub steps : v'.attempt.steps ≡ v.attempt.steps + length v.attempt.writes

-- all locks were released, one step each
pub record HasReleased (v v' : Client) : Type 0 where
  pub same : settling v' ≡ settling v
  pub stored : v'.attempt.stored ≡ v.attempt.stored
  pub free : v'.attempt.held ≡ []
  pub steps : v'.attempt.steps ≡ v.attempt.steps + length v.attempt.held

-- the attempt is decided, and its record is among the client's records
pub record IsDecided (region : RegionShown) (tag : List ℕ) (writes : List (ℕ × ℕ))
    (v v' : Client) (version : ℕ) : Type 0 where
  pub same : IsSameAttempt v v'
  pub held : v'.attempt.held ≡ v.attempt.held
  pub writing : v'.attempt.writes ≡ writes
  pub known : v'.floor ≡ version
  pub unstored : v'.attempt.stored ≡ []
  pub phase : v'.attempt.phase ≡ committed
  pub records : v'.records ≡ inserted (ticked_record region tag v writes version) v.records
  pub later : v.attempt.rv < version
  pub steps : v'.attempt.steps ≤ v.attempt.steps + length v.attempt.reads + MOST_TICKS

-- the attempt could not be decided: the locks are held as before and may be given back, and the
-- last step shows why
pub record HasFailedDeciding (region : RegionShown) (log : LogValue) (stop : Stop)
    (v v' : Client) : Type 0 where
  pub same : IsSameAttempt v v'
  pub records : v'.records ≡ v.records
  pub held : v'.attempt.held ≡ v.attempt.held
  pub floor : v.floor ≤ v'.floor
  pub able : MayGiveBack v'
  pub shown : IsCommitStop region log stop v'
  pub counted : IsCounted stop v.attempt.steps v'
  pub steps : v'.attempt.steps ≤ v.attempt.steps + length v.attempt.reads + MOST_TICKS

-- all written values were stored and all locks were released
pub record HasSettled (v v' : Client) : Type 0 where
  pub same : settling v' ≡ settling v
  pub free : v'.attempt.held ≡ []
  pub steps : v'.attempt.steps ≡ v.attempt.steps + length v.attempt.writes + length v.attempt.held
