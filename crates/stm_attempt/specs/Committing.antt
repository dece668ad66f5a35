-- The effects of a commit.
use Rattle.std.specs.Prelude.{◌≡◌, ◌≢◌, ◌⊎◌, ℕ, ◌+◌, ◌*◌, ◌<◌, ◌≤◌, true, false, List, [], ◌∷◌, length, Result, IfOk, IfErr, MatchResult}
use Rattle.stm_core.specs.declared.limits.TheConstants.{MOST_TICKS}
use Rattle.stm_core.specs.Client.{Client, Record, is_settled, locked, ticked, inserted, RecordLaw}
use Rattle.stm_core.specs.Event.{forgetting, versioned, writer_record, reader_record}
use Rattle.stm_logs.specs.Log.{LogValue, log_pairs, log_locks}
use Rattle.stm_region.specs.Shown.{RegionShown, unplaced}
use Rattle.stm_core.specs.Guards.{stripe_of}
use Rattle.stm_region.specs.Findings.{Decides}
use Rattle.stm_attempt.specs.Conflicts.{IsCommitConflict}
use Rattle.stm_attempt.specs.Answers.{IsSpentStop}
use Rattle.stm_attempt.specs.declared.conflict.Stop.{Stop}
use Rattle.stm_attempt.specs.declared.conflict.Stop.TheVariants.{Memory, Spent, Conflict as Conflicting}

-- both values show the same attempt of the same client, with the same reads, and the same aborted
-- attempts before it
pub record IsSameAttempt (v v' : Client) : Type 0 where
  pub grants : v'.grants ≡ v.grants
  pub is_gathered : v'.is_gathered ≡ v.is_gathered
  pub number : v'.attempt.number ≡ v.attempt.number
  pub rv : v'.attempt.rv ≡ v.attempt.rv
  pub reads : v'.attempt.reads ≡ v.attempt.reads
  pub lone : v'.attempt.lone ≡ v.attempt.lone
  pub began_at : v'.attempt.began_at ≡ v.attempt.began_at
  pub renewal : v'.attempt.renewal ≡ v.attempt.renewal
  pub aborted_before : v'.aborted_before ≡ v.aborted_before
  pub aborted : v'.aborted ≡ v.aborted

-- the client's value without its last step, the addresses it has stored, the locks it holds and
-- the number of its steps
abbrev pub settling : Client → Client
settling v = record v {
  attempt = record (forgetting v.attempt) { stored = []; held = []; steps = 0 };
}

-- the writer's record of an attempt after a tick to this version, with this tag and these writes
abbrev pub ticked_record : RegionShown → List ℕ → Client → List (ℕ × ℕ) → ℕ → Record
ticked_record region tag v writes version =
    let stamp = unplaced region.renewal in
    writer_record stamp (versioned stamp version tag writes v).attempt

-- the record of a commit: a reader's record if nothing was written, else a writer's record
abbrev pub commit_record : RegionShown → List ℕ → Client → List (ℕ × ℕ) → ℕ → Record
commit_record region tag v [] version = reader_record (unplaced region.renewal) tag v.attempt
commit_record region tag v (p ∷ ps) version = ticked_record region tag v (p ∷ ps) version

-- the version of a commit: the read version if nothing was written, else a later version
abbrev pub IsCommitVersion : Client → List (ℕ × ℕ) → ℕ → Type 0
IsCommitVersion v [] version = version ≡ v.attempt.rv
IsCommitVersion v (p ∷ ps) version = v.attempt.rv < version

-- the last step that is no give-back won a lock
abbrev pub HasWonLock : Client → Type 0
HasWonLock v = (lock word : ℕ) × (v.attempt.last ≡ locked lock word word)

-- the last step that is no give-back was a tick that lost to this version
abbrev pub HasLostTick : ℕ → Client → Type 0
HasLostTick version v =
    (from : ℕ) × (v.attempt.last ≡ ticked from version) × (from ≢ version)

-- the reason why a commit stopped is shown: a conflict, or a clock that was found at the last
-- version while ticks were left. No tick is made from a clock at the last version, so the last
-- step won a lock or is the tick that lost to that version
abbrev pub IsCommitStop : RegionShown → LogValue → Stop → Client → Type 0
IsCommitStop region log Memory v = ⊥
IsCommitStop region log (Conflicting conflict) v =
    IsCommitConflict (stripe_of region.stripes) log conflict v
IsCommitStop region log (Spent version) v =
    (version ≡ region.last) × (v.attempt.next_from ≡ region.last) × (v.attempt.ticks < MOST_TICKS)
    × (HasWonLock v ⊎ HasLostTick version v)

-- a commit that found a spent clock took these steps and the lost ticks, and no others
abbrev pub IsCounted : Stop → ℕ → Client → Type 0
IsCounted Memory steps v = Unit {0}
IsCounted (Conflicting conflict) steps v = Unit {0}
IsCounted (Spent version) steps v = v.attempt.steps ≡ steps + v.attempt.ticks

-- a commit that found a spent clock has given back its locks
abbrev pub GaveBack : Stop → Client → Type 0
GaveBack Memory v = Unit {0}
GaveBack (Conflicting conflict) v = Unit {0}
GaveBack (Spent version) v = v.attempt.gave_back ≡ true

-- the range of a commit's result: a version is at most the last version. A solo commit returns at
-- most the next version after the read version, or that the clock was already spent when the
-- attempt began
pub record IsCommitResult (region : RegionShown) (v : Client)
    (result : Result ℕ Stop) : Type 0 where
  pub range : IfOk result (λ version. version ≤ region.last)
  -- a solo commit returns at most the next version, or no version exists after the read version
  pub next : v.attempt.lone ≡ true → MatchResult result
      (λ version. version ≤ v.attempt.rv + 1) (λ _. v.attempt.rv ≡ region.last)
  -- a solo commit is stopped by nothing but a spent clock
  pub lone : v.attempt.lone ≡ true → IfErr result (λ stop. IsSpentStop stop)

-- the commit added exactly one record, and no lock is held
-- Not said: that the values are in the shared words. A lock is released only after all its words
-- are stored, and `close` of the region describes the words.
pub record HasCommitted (region : RegionShown) (tag : List ℕ) (writes : List (ℕ × ℕ))
    (v v' : Client) (version : ℕ) : Type 0 where
  pub records : v'.records ≡ inserted (commit_record region tag v writes version) v.records
  pub versioned : IsCommitVersion v writes version
  pub known : v'.floor ≡ version
  pub free : v'.attempt.held ≡ []
  pub settled : is_settled v'.attempt.phase ≡ true
  pub same : IsSameAttempt v v'
  -- a commit without writes is one step
  pub steps : writes ≡ [] → v'.attempt.steps ≡ v.attempt.steps + 1

-- the commit was refused: no record was added, no lock is held, and the attempt had writes. A
-- commit that found a spent clock took three steps for each lock, two to take it and one to give
-- it back, and the lost ticks
-- Not said: in which order the locks were given back.
pub record HasStopped (region : RegionShown) (log : LogValue) (stop : Stop)
    (v v' : Client) : Type 0 where
  pub written : log_pairs log ≢ []
  pub shown : IsCommitStop region log stop v'
  pub gave_back : GaveBack stop v'
  pub counted : IsCounted stop (v.attempt.steps + 3 * length (log_locks log)) v'
  pub free : v'.attempt.held ≡ []
  pub unsettled : is_settled v'.attempt.phase ≡ false
  pub floor : v.floor ≤ v'.floor
  pub same : IsSameAttempt v v'
  pub records : v'.records ≡ v.records

-- a step decided the attempt of a client, which has this value right after the step, and made this
-- record
abbrev pub DecidesWith : (List ℕ → Type 0) → RecordLaw → RegionShown → Record → Client → Type 0
DecidesWith fits lawful region r v = (d : Decides fits lawful region v) × (d.made ≡ r)

-- some step decided the attempt and made this record. Right after that step the client had its
-- present value, except for its last step, the addresses it has stored, the locks it holds and the
-- number of its steps. The records of all clients were then lawful and serial, the client's own
-- among them
-- Not said: which other clients there are.
pub record WasDecided (fits : List ℕ → Type 0) (lawful : RecordLaw) (region : RegionShown)
    (r : Record) (v : Client) : Type 0 where
  pub then : Client
  pub same : settling v ≡ settling then
  pub decides : Decides fits lawful region then
  pub made : decides.made ≡ r
