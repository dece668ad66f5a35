-- The commit position of a call's record, and the statistics of the call's attempts.
use Rattle.std.specs.Prelude.{◌≡◌, ℕ, ◌+◌, List, [], ◌∷◌, length, Option, Some, None, Result, Ok, Err, IfErr}
use Rattle.std.specs.Prelude.{nat_lt, if◌then◌else◌}
use Rattle.stm_core.specs.Client.{Client}
use Rattle.stm_region.specs.Shown.{RegionShown}
use Rattle.stm_attempt.specs.declared.conflict.Conflict.{Conflict}
use Rattle.stm_attempt.specs.declared.conflict.Conflict.TheVariants.{Held, Newer, Moved, LostLock, LostTick}
use Rattle.vac_model.specs.declared.tasks.Task.{Task}
use Rattle.vac_model.specs.declared.replies.Reply.{Reply}
use Rattle.vac_model.specs.Code.{code}
use Rattle.vac_manager.specs.declared.fault.Fault.{Fault}
use Rattle.vac_manager.specs.declared.fault.Fault.TheVariants as fault
pub use Rattle.stm_object.specs.declared.place.CommitPosition.{CommitPosition}
pub use Rattle.stm_object.specs.Places.{place_of, rank_of}
use Rattle.vac_manager.specs.declared.placed.PlacedReply.{PlacedReply}
use Rattle.vac_manager.specs.declared.placed.CallStatistics.{CallStatistics}
use Rattle.vac_manager.specs.declared.sites.WordKind.{WordKind}
use Rattle.vac_manager.specs.declared.sites.WordKind.TheVariants.{Root, Head, Node, Use, Stock}
use Rattle.vac_manager.specs.Sites.{word_kind_of}
use Rattle.vac_model.specs.declared.limits.TheConstants.{MOST_TRIES}
use Rattle.vac_manager.specs.Called.{Adds, ClientShown, HasCalled, WasShown}

-- exactly one record was added, with this tag and this commit position
pub record AddsAt (renewal : ℕ) (tag : List ℕ) (place : CommitPosition) (v v' : Client) :
    Type 0 where
  pub adds : Adds renewal tag v v'
  pub place_is : place ≡ place_of adds.added

-- the result of a call without the commit position
abbrev pub replied : {E : Type 0} → Result PlacedReply E → Result Reply E
replied (Ok placed) = Ok placed.reply
replied (Err e) = Err e

-- if the call returns a reply, the record of the task and the reply was added, with the commit
-- position that the call returns; after a fault, no record was added
abbrev pub IsAddedAtPlace : {E : Type 0} → RegionShown → Task → Result PlacedReply E → Client
    → Client → Type 0
IsAddedAtPlace region t (Ok placed) v v' =
    AddsAt region.renewal (code t placed.reply) placed.place v v'
IsAddedAtPlace region t (Err e) v v' = v'.records ≡ v.records

-- the attempt statistics of no attempt
abbrev pub nothing_done : CallStatistics
nothing_done = record {
  attempts = 0;
  held = 0;
  newer = 0;
  moved = 0;
  lost_lock = 0;
  lost_tick = 0;
  roots = 0;
  heads = 0;
  nodes = 0;
  uses = 0;
  stocks = 0;
}

-- the number of attempts that aborted on a conflict
abbrev pub conflicts_of : CallStatistics → ℕ
conflicts_of e = e.held + e.newer + e.moved + e.lost_lock + e.lost_tick

-- the number of conflicts over a lock, summed over the kinds of words that a lock guards
abbrev pub locks_of : CallStatistics → ℕ
locks_of e = e.roots + e.heads + e.nodes + e.uses + e.stocks

-- the statistics with one more attempt
abbrev pub one_more : CallStatistics → CallStatistics
one_more e = record e { attempts = e.attempts + 1 }

-- the statistics with one more conflict over the lock of a word of this kind
abbrev pub one_more_over : WordKind → CallStatistics → CallStatistics
one_more_over Root e = record e { roots = e.roots + 1 }
one_more_over Head e = record e { heads = e.heads + 1 }
one_more_over Node e = record e { nodes = e.nodes + 1 }
one_more_over Use e = record e { uses = e.uses + 1 }
one_more_over Stock e = record e { stocks = e.stocks + 1 }

-- the statistics with one more attempt that aborted on this conflict, counted by the kind of the
-- conflict and, unless a tick was lost, by the word that the lock guards
abbrev pub conflicted : Conflict → CallStatistics → CallStatistics
conflicted (Held lock word) e =
    one_more_over (word_kind_of lock) (record (one_more e) { held = e.held + 1 })
conflicted (Newer lock version rv) e =
    one_more_over (word_kind_of lock) (record (one_more e) { newer = e.newer + 1 })
conflicted (Moved lock first second) e =
    one_more_over (word_kind_of lock) (record (one_more e) { moved = e.moved + 1 })
conflicted (LostLock lock found) e =
    one_more_over (word_kind_of lock) (record (one_more e) { lost_lock = e.lost_lock + 1 })
conflicted (LostTick found) e = record (one_more e) { lost_tick = e.lost_tick + 1 }

-- the statistics with one more attempt, which ended with this conflict if there is one; nothing is
-- counted beyond 1,048,576 attempts
abbrev pub counted : Option Conflict → CallStatistics → CallStatistics
counted None e = if nat_lt e.attempts MOST_TRIES then one_more e else e
counted (Some conflict) e = if nat_lt e.attempts MOST_TRIES then conflicted conflict e else e

-- the statistics of attempts that aborted on these conflicts, the newest first
abbrev pub statistics_of : List Conflict → CallStatistics
statistics_of [] = nothing_done
statistics_of (conflict ∷ earlier) = conflicted conflict (statistics_of earlier)

-- an attempt of this client, `behind` attempts after its present one, ended by showing this
-- conflict, and changed neither the client's records nor its grants
-- Not said: the kind of the conflicts of earlier attempts. The witness is any value that has the
-- client's records and grants and the number of that attempt, and that shows the conflict.
pub record HasShown (region : RegionShown) (v : Client) (behind : ℕ) (conflict : Conflict) :
    Type 0 where
  pub client : Client
  pub number : client.attempt.number ≡ v.attempt.number + behind
  pub records : client.records ≡ v.records
  pub grants : client.grants ≡ v.grants
  pub shown : WasShown region conflict client

-- the client's next attempts, one for each of these conflicts, each ended by showing its conflict;
-- the list has the newest conflict first
abbrev pub HaveShown : RegionShown → Client → List Conflict → Type 0
HaveShown region v [] = Unit {0}
HaveShown region v (conflict ∷ earlier) =
    HasShown region v (length (conflict ∷ earlier)) conflict × HaveShown region v earlier

-- the newest of these conflicts, which is the first of the list
abbrev pub newest : List Conflict → Option Conflict
newest [] = None
newest (conflict ∷ earlier) = Some conflict

-- the statistics with one more attempt for the end of the call, unless the call made no attempt or
-- its last attempt met a conflict that is already counted
abbrev pub closed_by : {R : Type 0} → Result R Fault → CallStatistics → CallStatistics
closed_by (Ok reply) e = one_more e
closed_by (Err fault.Arguments) e = e
closed_by (Err fault.Memory) e = one_more e
closed_by (Err (fault.Busy conflict)) e = e
closed_by (Err (fault.Spent version)) e = one_more e

-- a call that returns Busy returns the newest of these conflicts
abbrev pub ClosesWith : Fault → List Conflict → Type 0
ClosesWith fault.Arguments conflicts = Unit {0}
ClosesWith fault.Memory conflicts = Unit {0}
ClosesWith (fault.Busy conflict) conflicts = newest conflicts ≡ Some conflict
ClosesWith (fault.Spent version) conflicts = Unit {0}

-- the number of attempts in the statistics of a call is exact. The last attempt is counted by the
-- conflict that the call returns, if it returns Busy. Each earlier attempt is counted by a conflict
-- that a client with the number of this attempt can show
-- Not said: that an earlier attempt ended with the conflict by which it is counted (`HasShown`).
pub record CountsAttempts {R : Type 0} (region : RegionShown) (v v' : Client)
    (result : Result R Fault)
    (e : CallStatistics) : Type 0 where
  pub conflicts : List Conflict
  pub shown : HaveShown region v conflicts
  pub closes : IfErr result (λ fault. ClosesWith fault conflicts)
  pub statistics : e ≡ closed_by result (statistics_of conflicts)
  pub begun : v.attempt.number + e.attempts ≡ v'.attempt.number

-- the effect of a call that also returns the commit position of its record and the statistics of
-- its attempts
pub record HasCalledPlaced (region : RegionShown) (t : Task) (tries : ℕ)
    (result : Result PlacedReply Fault) (e : CallStatistics) (c c' : ClientShown) : Type 0 where
  pub call : HasCalled region t tries (replied result) c c'
  pub place : IsAddedAtPlace region t result c.value c'.value
  pub statistics : CountsAttempts region c.value c'.value result e
