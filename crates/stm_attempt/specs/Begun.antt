-- The state of an attempt that has begun, in terms of its client's value.
use Rattle.std.specs.Prelude.{◌≡◌, ◌==◌, ℕ, ◌+◌, ◌*◌, ◌^◌, ◌<◌, ◌≤◌, Bool, List, [], ◌∷◌, ◌++◌, length, map, true, false, Option, None, Some}
use Rattle.std.specs.FinMap.{get}
use Rattle.tx_memory.specs.Image.{In}
use Rattle.stm_core.specs.LockWord.{free_word}
use Rattle.stm_core.specs.Client.{Client, Phase, is_settled, idle, running, ending, committed, finished, Step, nothing, began, probed, fetched, checked, locked, ticked, validated, ended}
use Rattle.stm_core.specs.Event.{forgetting}
use Rattle.stm_logs.specs.Log.{LogValue}
use Rattle.stm_logs.specs.Marks.{is_marked}
use Rattle.stm_logs.specs.declared.marks.Marks.{Marks}
use Rattle.stm_region.specs.Shown.{RegionShown}
use Rattle.stm_core.specs.Guards.{stripe_of}
use Rattle.stm_attempt.specs.Conflicts.{HasMet, reads_refused}
use Rattle.stm_attempt.specs.declared.conflict.Conflict.{Conflict}

-- the client's value without the fields that a read changes
abbrev pub still : Client → Client
still v = record v {
  attempt = record (forgetting v.attempt) { phase = running; reads = []; steps = 0 };
}

-- the client's attempt began with the read version rv, and has done nothing but read
pub record IsBegun (v : Client) (rv : ℕ) : Type 0 where
  pub out : v.is_gathered ≡ false
  pub begun_at : v.attempt.rv ≡ rv
  pub known : v.floor ≡ rv
  pub free : v.attempt.held ≡ []
  pub unversioned : v.attempt.wv ≡ 0
  pub unticked : v.attempt.ticks ≡ 0
  pub from : v.attempt.next_from ≡ rv

-- a word may be read: the attempt has begun and reads on, and `newest` is the word of a free lock
-- at the read version
pub record CanRead (v : Client) (newest : ℕ) : Type 0 where
  pub begun : IsBegun v v.attempt.rv
  pub runs : v.attempt.phase ≡ running
  pub compared : newest ≡ free_word v.attempt.rv
  pub small : newest < 2 ^ 63

-- true if the step shows no conflict: the begin of an attempt, or the check of a read that found
-- the word of the probe
abbrev pub is_quiet : Step → Bool
is_quiet nothing = false
is_quiet (began version) = true
is_quiet (probed lock word) = false
is_quiet (fetched address word value) = false
is_quiet (checked address first second) = first == second
is_quiet (locked lock word now) = false
is_quiet (ticked version now) = false
is_quiet (validated lock word) = false
is_quiet (ended version) = false

-- the client's last step shows no conflict
abbrev pub IsQuiet : Client → Type 0
IsQuiet v = is_quiet v.attempt.last ≡ true

-- the value of the client is as before, except that x was read at the address, in three steps
pub record HasReadWord (v v' : Client) (address x : ℕ) : Type 0 where
  pub reads : v'.attempt.reads ≡ v.attempt.reads ++ (address, x) ∷ []
  pub runs : v'.attempt.phase ≡ running
  pub quiet : IsQuiet v'
  pub steps : v'.attempt.steps ≡ v.attempt.steps + 3

-- a solo attempt has met no conflict
abbrev pub IsUnstopped : {A : Type 0} → Client → Option A → Type 0
IsUnstopped v stopped = v.attempt.lone ≡ true → stopped ≡ None

-- every address of the reads is inside the region
abbrev pub AreInside : ℕ → List (ℕ × ℕ) → Type 0
AreInside size reads = (address x : ℕ) → In (address, x) reads → address < size

-- the address of a read
abbrev pub address_of : ℕ × ℕ → ℕ
address_of p = p.0

-- the addresses of a list of reads
abbrev pub addresses : List (ℕ × ℕ) → List ℕ
addresses reads = map address_of reads

-- each logged write has an address of the region, and the number of the address's lock
pub record IsPlaced (region : RegionShown) (writes : LogValue) : Type 0 where
  pub lock : (address number : ℕ) → get writes.locks address ≡ Some number →
      number ≡ stripe_of region.stripes address
  pub inside : (address number : ℕ) → get writes.locks address ≡ Some number →
      address < region.size
  pub range : (address number : ℕ) → get writes.locks address ≡ Some number →
      number < region.stripes

-- an address that is not marked has no write
abbrev pub MarksCover : Marks → LogValue → Type 0
MarksCover marks writes =
    (address : ℕ) → is_marked marks address ≡ false → get writes.words address ≡ None

-- all addresses are marked
abbrev pub AreAllMarked : Marks → Type 0
AreAllMarked marks = (address : ℕ) → is_marked marks address ≡ true

-- true unless the attempt was finished as a reader
abbrev pub is_unfinished : Phase → Bool
is_unfinished idle = true
is_unfinished running = true
is_unfinished ending = true
is_unfinished committed = true
is_unfinished finished = false

-- the attempt reads on unless a read met a conflict, which is then shown by the last step. The
-- steps are bounded by the number of reads
pub record IsRunning (region : RegionShown) (v : Client) (rv : ℕ)
    (stopped : Option Conflict) : Type 0 where
  pub begun : IsBegun v rv
  pub runs : stopped ≡ None → v.attempt.phase ≡ running
  pub unsettled : is_settled v.attempt.phase ≡ false
  pub shown : HasMet (stripe_of region.stripes) stopped v
  pub quiet : stopped ≡ None → IsQuiet v
  pub lone : IsUnstopped v stopped
  pub steps : v.attempt.steps ≤ 1 + 3 * (length v.attempt.reads + reads_refused stopped)
