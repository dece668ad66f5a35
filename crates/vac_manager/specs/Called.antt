-- The effect of a manager's call on the value of its client, and the reasons for a fault.
use Rattle.std.specs.Prelude.{◌≡◌, ℕ, ◌+◌, ◌*◌, ◌%◌, ◌<◌, ◌≤◌, ◌⊎◌, Bool, false, ◌&&◌, nat_le}
use Rattle.std.specs.Prelude.{List, [], ◌∷◌, ◌++◌, Result, Ok, Err, ◌≢◌, ◌↔◌, IfOk, IfErr, IsErrOf}
use Rattle.std.specs.Prelude.{true, is_some, is_none, ◌||◌, ◌==◌}
use Rattle.stm_core.specs.declared.limits.TheConstants.{MOST_WORDS, MOST_GRANTS}
use Rattle.stm_core.specs.Client.{Client, Record, rank}
use Rattle.stm_core.specs.Core.{IsFreeHanded}
use Rattle.stm_logs.specs.Log.{LogValue}
use Rattle.stm_region.specs.Shown.{RegionShown}
use Rattle.stm_core.specs.Guards.{stripe_of}
use Rattle.stm_object.specs.Callers.{UserShown, CallerShown as CallerOfObject}
use Rattle.stm_object.specs.Callers.{Splits as SplitsUser}
use Rattle.stm_object.specs.History.{GrowsAborted}
use Rattle.stm_attempt.specs.Committing.{HasWonLock, HasLostTick}
use Rattle.stm_attempt.specs.Conflicts.{IsReadConflict, IsCommitConflict}
use Rattle.stm_attempt.specs.declared.conflict.Conflict.{Conflict}
use Rattle.tx_alloc.specs.Pool.{heap_words}
use Rattle.tx_alloc.specs.declared.place.TheConstants.{LISTS}
use Rattle.vac_model.specs.declared.commands.Command.{Command}
use Rattle.vac_model.specs.declared.commands.Command.TheVariants as command
use Rattle.vac_model.specs.declared.tasks.Task.{Task}
use Rattle.vac_model.specs.declared.tasks.Task.TheVariants as task
use Rattle.vac_model.specs.declared.replies.Reply.{Reply}
use Rattle.vac_model.specs.State.{State, empty_state}
use Rattle.vac_model.specs.Run.{run, refusal_of}
use Rattle.vac_model.specs.Ranges.{is_task}
use Rattle.vac_model.specs.Code.{code}
use Rattle.vac_manager.specs.declared.client.Lists.{Lists}
use Rattle.vac_manager.specs.declared.fault.Fault.{Fault}
use Rattle.vac_manager.specs.declared.fault.Fault.TheVariants as fault
use Rattle.vac_tasks.specs.Reading.{is_question, only_reads}
use Rattle.vac_model.specs.declared.limits.TheConstants.{MOST_TRIES}
use Rattle.vac_manager.specs.Law.{Shows, IsLawful}
use Rattle.vac_manager.specs.Legal.{capacity_of, IsHistoryTo, WasLegal}

-- a client of a manager as contracts see the client: the region, the value and the free lists
abbrev pub ClientShown : Type 0
ClientShown = UserShown Lists

-- a client together with the manager that it calls, which contracts see as its region
abbrev pub CallerShown : Type 0
CallerShown = CallerOfObject Lists

-- the free lists at a split: the new client's entries start with the next free list
pub record SplitsLists (before after other : Lists) : Type 0 where
  pub mine : after ≡ record before { next = (before.next + 1) % LISTS }
  pub theirs : other ≡ record { start = before.next; next = (before.next + 1) % LISTS }

-- the region was first opened on words that represent the empty state
pub record IsOpened (region : RegionShown) : Type 0 where
  pub size : region.size ≡ heap_words (capacity_of region)
  pub small : region.size ≤ MOST_WORDS
  pub shown : Shows region.first (empty_state (capacity_of region))

-- the client has all grants of its region; no other client is out, so the client is solo
abbrev pub HasAllGrants : Client → Type 0
HasAllGrants v = v.grants ≡ MOST_GRANTS

-- the number of attempts that a call may make at most is in range: 1 to 1,048,576
abbrev pub is_try_count : ℕ → Bool
is_try_count tries = nat_le 1 tries && nat_le tries MOST_TRIES

-- the task can be issued, with this limit on its attempts
abbrev pub is_call : Task → ℕ → Bool
is_call t tries = is_task t && is_try_count tries

-- the command changes nothing in any state: it is a question, an Add of no units without a price,
-- or a Delete of no units
abbrev pub has_no_change : Command → Bool
has_no_change (command.Add kind id num price) = num == 0 && is_none price
has_no_change (command.Delete kind id num) = num == 0
has_no_change c = is_question c

-- the task is a single command that was refused or that changes nothing in any state
abbrev pub changes_nothing : Task → Reply → Bool
changes_nothing (task.One c) reply = is_some (refusal_of reply) || has_no_change c
changes_nothing t reply = false

-- exactly one record was added, as the last one; it is the record of a reader and wrote nothing
pub record AddsReader (v v' : Client) : Type 0 where
  pub added : Record
  pub reader : added.writer ≡ false
  pub wrote : added.writes ≡ []
  pub records : v'.records ≡ v.records ++ (added ∷ [])

-- if the call returns a reply to a single command that was refused or that changes nothing in any
-- state, a reader's record was added
-- Not said: that an Add which sets the price that the item already has writes nothing. Such an Add
-- writes the price.
abbrev pub AddsReaderIfUnchanged : {E : Type 0} → Task → Result Reply E → Client → Client → Type 0
AddsReaderIfUnchanged t (Ok reply) v v' = changes_nothing t reply ≡ true → AddsReader v v'
AddsReaderIfUnchanged t (Err e) v v' = Unit {0}

-- exactly one record was added, as the last one: with this tag, by the client's last attempt, in
-- this renewal, of a version from the client's earlier floor to its present one, and after the
-- writer of the earlier floor
pub record Adds (renewal : ℕ) (tag : List ℕ) (v v' : Client) : Type 0 where
  pub added : Record
  pub tag_is : added.tag ≡ tag
  pub attempt_is : added.attempt ≡ v'.attempt.number
  pub renewal_is : added.renewal ≡ renewal
  pub unplaced : added.point ≡ 0
  pub later : v.floor ≤ added.version
  pub behind : 2 * v.floor < rank added
  pub known : added.version ≤ v'.floor
  pub records : v'.records ≡ v.records ++ (added ∷ [])

-- if the call returns a reply, the record of the task and the reply was added; after a fault, no
-- record was added
abbrev pub Records : {E : Type 0} → RegionShown → Task → Result Reply E → Client → Client → Type 0
Records region t (Ok reply) v v' = Adds region.renewal (code t reply) v v'
Records region t (Err e) v v' = v'.records ≡ v.records

-- the client's records are a history that reaches the state after the task ran in state s, and the
-- reply is the reply of that run
pub record LeadsOn (region : RegionShown) (t : Task) (reply : Reply) (s : State) (v' : Client) :
    Type 0 where
  pub reply_is : reply ≡ (run s t).1
  pub history : IsHistoryTo region v'.records (run s t).0

-- if the client's records are a history that reaches a state s, then after a reply they are a
-- history that reaches the state after the task; after a fault they still reach s
abbrev pub Continues : {E : Type 0} → RegionShown → Task → Result Reply E → Client → Client
    → Type 0
Continues region t (Ok reply) v v' =
    (s : State) → IsHistoryTo region v.records s → LeadsOn region t reply s v'
Continues region t (Err e) v v' =
    (s : State) → IsHistoryTo region v.records s → IsHistoryTo region v'.records s

-- the records of a solo client are a complete history
abbrev pub HasWholeHistory : RegionShown → Client → Type 0
HasWholeHistory region v = (last : State) × IsHistoryTo region v.records last

-- the client's last step showed the conflict, in a read or in a commit
abbrev pub WasShown : RegionShown → Conflict → Client → Type 0
WasShown region conflict v =
    ∥ ((address : ℕ) × IsReadConflict (stripe_of region.stripes) address conflict v) ∥₁
    ⊎ ((log : LogValue) × IsCommitConflict (stripe_of region.stripes) log conflict v)

-- the client's last step, apart from giving back locks, showed no conflict
abbrev pub ShowsNone : RegionShown → Client → Type 0
ShowsNone region v = (conflict : Conflict) → WasShown region conflict v → ⊥

-- the client's attempt of the task was about to write something: for some reply, the record of the
-- task with the attempt's reads and some writes would have been lawful, and the task is no command
-- that is refused with that reply or that changes nothing in any state
-- Not said: that a task which is not a single command never makes a write that changes nothing. A
-- write of the value that the word already has is lawful too.
pub record WouldWrite (t : Task) (v : Client) : Type 0 where
  pub reply : Reply
  pub writes : List (ℕ × ℕ)
  pub some : writes ≢ []
  pub changing : changes_nothing t reply ≡ false
  pub lawful : IsLawful (code t reply) v.attempt.reads writes

-- the clock was found at its last version while the attempt had something to write; the locks had
-- been taken and were given back, and the last step before the locks were given back won a lock,
-- or is the tick that lost to this version
pub record IsSpent (region : RegionShown) (t : Task) (version : ℕ) (v : Client) : Type 0 where
  pub version_is : version ≡ region.last
  pub from : v.attempt.next_from ≡ region.last
  pub gave_back : v.attempt.gave_back ≡ true
  pub found : HasWonLock v ⊎ HasLostTick version v
  pub written : WouldWrite t v

-- the number of attempts that a call made: at most the limit, exactly the limit if the call
-- returns Busy, none if the call returns Arguments
-- Not said: that refused memory and a spent clock end the call of a client that is not solo at
-- once. `CountsAttempts` of `trace_call` says so by its counts.
abbrev pub Attempts : ℕ → ℕ → ℕ → Result Reply Fault → Type 0
Attempts tries before now (Err fault.Arguments) = now ≡ before
Attempts tries before now (Err (fault.Busy conflict)) = now ≡ before + tries
Attempts tries before now result = (before < now) × (now ≤ before + tries)

-- the effect of a solo client's call on the version that the client knows: a reply raises the
-- version by at most one, refused arguments and refused memory leave it, Busy is impossible, and a
-- spent clock means that the client knew the last version
abbrev pub IsNext : ℕ → ℕ → ℕ → Result Reply Fault → Type 0
IsNext last before now (Ok reply) = now ≤ before + 1
IsNext last before now (Err (fault.Busy conflict)) = ⊥
IsNext last before now (Err (fault.Spent version)) = before ≡ last
IsNext last before now (Err e) = now ≡ before

-- the reason for a fault: arguments out of range, a conflict that the last attempt showed, or,
-- only if the task may write, refused memory after a step that showed no conflict, or a spent
-- clock
-- Not said: which growth of a log was refused; that some attempt succeeds.
abbrev pub IsFault : RegionShown → Task → ℕ → Fault → Client → Client → Type 0
IsFault region t tries fault.Arguments v v' = (is_call t tries ≡ false) × (v' ≡ v)
IsFault region t tries fault.Memory v v' = (only_reads t ≡ false) × ShowsNone region v'
IsFault region t tries (fault.Busy conflict) v v' = WasShown region conflict v'
IsFault region t tries (fault.Spent version) v v' =
    (only_reads t ≡ false) × IsSpent region t version v'

-- the fault is not a conflict
abbrev pub IsNotBusy : Fault → Type 0
IsNotBusy (fault.Busy conflict) = ⊥
IsNotBusy e = Unit {0}

-- the effect of a call of a task: the client's value afterwards, the records that were added, the
-- number of attempts, the reason for a fault, and, for a solo client, the history that its records
-- are. The aborted attempts that the client listed before stay in its list
-- Not said: which ones the call adds (`HasTraced` says it of a traced call).
pub record HasCalled (region : RegionShown) (t : Task) (tries : ℕ) (result : Result Reply Fault)
    (c c' : ClientShown) : Type 0 where
  pub client : c' ≡ record c { value = c'.value }
  pub grants : c'.value.grants ≡ c.value.grants
  pub floor : c.value.floor ≤ c'.value.floor
  pub free_handed : IsFreeHanded c'.value
  pub arguments : IsErrOf result fault.Arguments ↔ (is_call t tries ≡ false)
  pub records : Records region t result c.value c'.value
  pub spares : AddsReaderIfUnchanged t result c.value c'.value
  pub aborted : GrowsAborted c.value c'.value
  pub attempts : Attempts tries c.value.attempt.number c'.value.attempt.number result
  pub once : HasAllGrants c.value
      → Attempts 1 c.value.attempt.number c'.value.attempt.number result
  pub next : HasAllGrants c.value → IsNext region.last c.value.floor c'.value.floor result
  pub legal : IfOk result (λ _. WasLegal region c'.value)
  pub whole : HasAllGrants c.value → IfOk result (λ _. HasWholeHistory region c'.value)
  pub history : HasAllGrants c.value → Continues region t result c.value c'.value
  pub fault : IfErr result (λ why. IsFault region t tries why c.value c'.value)
  pub alone : HasAllGrants c.value → IfErr result (λ why. IsNotBusy why)

-- a client was split off for one grant; the new client's entries start with the next free list
abbrev pub Splits : ClientShown → ClientShown → ClientShown → Type 0
Splits before after other = SplitsUser SplitsLists before after other
