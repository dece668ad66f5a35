-- The contract of a load.
use Rattle.std.specs.Prelude.{◌≡◌, ◌≤◌, ◌<◌, ◌+◌, ◌*◌, ◌⊎◌, ◌++◌, ◌&&◌, nat_eq, Bool, ℕ, List, [], ◌∷◌, length}
use Rattle.std.specs.Prelude.{All, vec_len, Result, IfOk, IfErr}
use Rattle.vac_model.specs.declared.tasks.Task.{Task}
use Rattle.tx_memory.specs.Image.{In, Agrees}
use Rattle.stm_core.specs.Client.{Client, Record, Aborted, all_aborted, merged}
use Rattle.stm_core.specs.declared.limits.TheConstants.{MOST_GRANTS}
use Rattle.stm_core.specs.History.{Sub, Serial, image_upto}
use Rattle.stm_core.specs.Invariant.{Sorted}
use Rattle.stm_region.specs.Shown.{RegionShown}
use Rattle.tx_alloc.specs.Spread.{IsSpreadHeap}
use Rattle.vac_manager.specs.Called.{ClientShown, HasAllGrants, CallerShown}
use Rattle.vac_manager.specs.Opening.{Opens}
use Rattle.stm_object.specs.Callers.{GoesOn}
use Rattle.stm_object.specs.Places.{reader_at}
use Rattle.vac_manager.specs.declared.fault.Fault.{Fault}
use Rattle.vac_manager.specs.declared.fault.Fault.TheVariants as fault
use Rattle.load_tasks.specs.declared.settings.Settings.{Settings}
use Rattle.load_tasks.specs.declared.settings.TheConstants.{MOST_CLIENTS, MOST_TASKS}
use Rattle.load_run.specs.declared.outcomes.Outcomes.{Outcomes}
use Rattle.load_run.specs.declared.workers.Worker.{Worker}
use Rattle.load_run.specs.declared.workers.WorkerPromise.{WorkerPromise}
use Rattle.load_run.specs.declared.workers.Crew.{Crew}
use Rattle.load_run.specs.declared.rounds.Round.{Round}
use Rattle.load_run.specs.Alone.{IsAloneInRenewal, caller_of}
use Rattle.load_run.specs.Attempted.{TaskCountsShown, uncounted}
use Rattle.load_run.specs.Looping.{Looped, Clocked, AreOfTasks, total, least_attempts}
use Rattle.load_run.specs.Lists.{Paired}
use Rattle.load_run.specs.Several.{Interleaved, AllKept, Within, AllWithin, sum_of, added_up}
use Rattle.load_run.specs.Keeping.{RecorderContents, AreKept, AreKeptBetween, HasKeptAdded}
use Rattle.load_run.specs.Slots.{SlotShown}
use Rattle.load_run.specs.Opening.{as_tasks, RanDrawn, Stopped, IsAnswered}
use Rattle.load_tasks.specs.Setting.{is_settings}
use Rattle.load_run.specs.declared.load.LoadFault.{LoadFault}
use Rattle.load_run.specs.declared.load.LoadFault.TheVariants as load
use Rattle.vac_model.specs.declared.commands.Command.{Command}
use Rattle.vac_model.specs.declared.replies.Report.{Report}
use Rattle.vac_model.specs.State.{State, empty_state, report}
use Rattle.vac_manager.specs.Law.{Shows}
use Rattle.vac_manager.specs.Legal.{IsLegal, AreVersioned}
use Rattle.load_tasks.specs.Draws.{Drawn, times_over}
use Rattle.load_tasks.specs.Tasks.{task_of, opening}

-- the clock has a version for each command of the setup phase and, after these, for each task of
-- one client in a round
abbrev pub HasTime : Settings → Type 0
HasTime s = 4 * s.items + s.tasks ≤ s.last

-- the worker with this client slot ran its tasks of a round as caller `y`, with the limit on
-- attempts that the settings give; `z` and `left` are the caller and the slot afterwards, and the
-- counts are those of the tasks: the caller went on, the loop had its effect on the client's
-- value, the clock of a solo client advanced accordingly, and the recorder kept the completed
-- calls
pub record RanTasks {W D : Type 0} (leads : D → ℕ → D → Type 0) (shown_of : W → SlotShown D)
    (s : Settings) (y : CallerShown) (slot : W) (z : CallerShown) (left : W) (c : TaskCountsShown)
    : Type 0 where
  pub caller : GoesOn y z
  pub looped : Looped leads s y.shared.renewal s.tasks y.user.value z.user.value
      (shown_of slot).draws (shown_of left).draws c.outcomes
  pub clock : HasAllGrants y.user.value → Clocked y.shared.last y.user.value z.user.value
      c.outcomes
  pub tries : c.tries ≡ s.tries
  pub attempts : y.user.value.attempt.number + c.attempts ≡ z.user.value.attempt.number
  pub kept : HasKeptAdded y.shared.renewal y.user.value z.user.value (shown_of slot).kept
      (shown_of left).kept

-- a worker ran its tasks of a round, and this is the worker afterwards
abbrev pub DidWork : {W D : Type 0} → (D → ℕ → D → Type 0) → (W → SlotShown D) → Settings
    → Worker W → Worker W → Type 0
DidWork leads shown_of s w d =
    RanTasks leads shown_of s w.caller w.slot d.caller d.slot d.counts

-- each worker of a crew ran its tasks of a round; the workers stay in their order
pub record DidAllWork {W D : Type 0} (leads : D → ℕ → D → Type 0) (shown_of : W → SlotShown D)
    (s : Settings) (crew done : Crew W) : Type 0 where
  pub first : DidWork leads shown_of s crew.first done.first
  pub others : Paired (DidWork leads shown_of s) crew.others.items done.others.items

-- the promise is about the tasks of this worker with these settings
pub record IsPromise {W : Type 0} (s : Settings) (w : Worker W) (p : WorkerPromise W) : Type 0 where
  pub settings_is : p.settings ≡ s
  pub worker_is : p.worker.value ≡ w

-- the list has exactly the records of all elements, each once, and those of each element in their
-- order
abbrev pub InterleavedAll : {X : Type 0} → (X → List Record) → List X → List Record → Type 0
InterleavedAll records_of [] all = all ≡ []
InterleavedAll records_of (x ∷ xs) all =
    (others : List Record) × Interleaved (records_of x) others all
    × InterleavedAll records_of xs others

-- the records of all elements merged into the first records, one element after the other
abbrev pub all_merged : {X : Type 0} → (X → List Record) → List Record → List X → List Record
all_merged records_of first [] = first
all_merged records_of first (x ∷ xs) = all_merged records_of (merged first (records_of x)) xs

-- the clients were gathered: their records were merged, and their counts added up
pub record Gathered {X : Type 0} (records_of : X → List Record) (tally_of : X → Outcomes)
    (first : X) (others : List X) (all : List Record) (t : Outcomes) : Type 0 where
  pub records_are : all ≡ all_merged records_of (records_of first) others
  pub tallies : t ≡ added_up tally_of (first ∷ others)

-- the worker calls this manager, its client starts with these records and this floor,
-- and the worker has this client slot
pub record IsWorker {W : Type 0} (manager : RegionShown) (records : List Record) (floor : ℕ)
    (slot : W) (w : Worker W) : Type 0 where
  pub manager_is : w.caller.shared ≡ manager
  pub records_are : w.caller.user.value.records ≡ records
  pub knows : w.caller.user.value.floor ≡ floor
  pub seat_is : w.slot ≡ slot

-- each client slot got a caller of the manager of the setup phase: the first slot got the caller
-- of the setup phase, the others callers whose clients have no records. The first caller holds all
-- grants that are left. No worker has counted a task, and each task may make at most `tries`
-- attempts
pub record IsCrew {W : Type 0} (opener : CallerShown) (tries : ℕ) (slots : List W)
    (crew : Crew W) : Type 0 where
  pub slot : W
  pub rest : List W
  pub seats_are : slots ≡ slot ∷ rest
  pub opening : IsWorker opener.shared opener.user.value.records opener.user.value.floor
      slot crew.first
  pub others_are : Paired (IsWorker opener.shared [] opener.user.value.floor)
      rest crew.others.items
  pub grants : crew.first.caller.user.value.grants + vec_len crew.others ≡ MOST_GRANTS
  pub others_grants : All (λ w. w.caller.user.value.grants ≡ 0) crew.others.items
  pub counts : crew.first.counts ≡ uncounted tries
  pub aborted : all_aborted crew.first.caller.user.value ≡ all_aborted opener.user.value
  pub others_counts : All (λ w. w.counts ≡ uncounted tries) crew.others.items

-- the first worker can gather this one: it calls the same manager, it has no grants,
-- and its counts can be added
pub record IsMember {W : Type 0} (first w : Worker W) : Type 0 where
  pub one : w.caller.shared ≡ first.caller.shared
  pub grants : w.caller.user.value.grants ≡ 0
  pub tasks : total w.counts.outcomes ≤ MOST_TASKS
  pub tries : w.counts.tries ≡ first.counts.tries

-- the workers of a crew can be gathered: the first one holds all grants that are left
pub record CanGather {W : Type 0} (crew : Crew W) : Type 0 where
  pub grants : crew.first.caller.user.value.grants + vec_len crew.others ≡ MOST_GRANTS
  pub few : vec_len crew.others < MOST_CLIENTS
  pub tasks : total crew.first.counts.outcomes ≤ MOST_TASKS
  pub others : All (IsMember crew.first) crew.others.items

-- the results of one client in one round or several: the records of its completed tasks, the
-- number of its attempts, the aborted attempts of its traces, the counts of its tasks, and the
-- state after its draws
-- Not said: anything of the aborted attempts if the traces are not known.
pub record Share (D : Type 0) : Type 0 where
  pub records : List Record
  pub attempts : ℕ
  pub aborts : List Aborted
  pub outcomes : Outcomes
  pub left : D

-- a client drew n tasks, one after the other, from this state on; the completed tasks are a
-- sublist of the drawn ones, in their order, and each has its record. The client made at least as
-- many attempts as the counted tasks need
pub record HasShare {D : Type 0} (leads : D → ℕ → D → Type 0) (s : Settings) (n : ℕ)
    (state : D) (x : Share D) : Type 0 where
  pub tasks : List Task
  pub drawn : Drawn leads (times_over n (task_of s)) state tasks x.left
  pub answered : List Task
  pub among : Sub answered tasks
  pub number : length answered ≡ x.outcomes.answered
  pub are_of : AreOfTasks answered x.records
  pub all : total x.outcomes ≡ n
  pub least : least_attempts s.tries x.outcomes ≤ x.attempts

-- the share without the recorded calls
abbrev pub drawn_share : {D : Type 0} → Share (SlotShown D) → Share D
drawn_share x = record {
  records = x.records;
  attempts = x.attempts;
  aborts = x.aborts;
  outcomes = x.outcomes;
  left = x.left.draws;
}

-- a client drew n tasks, one after the other, starting from this slot, and its recorder kept the
-- calls of the completed ones and all attempts of the client, in turn: those of renewals `from` to
-- `to`
pub record HasKeptShare {D : Type 0} (leads : D → ℕ → D → Type 0) (s : Settings) (n from to : ℕ)
    (state : SlotShown D) (x : Share (SlotShown D)) : Type 0 where
  pub has : HasShare leads s n state.draws (drawn_share x)
  pub low : ℕ
  pub high : ℕ
  pub kept : AreKeptBetween (reader_at from low) (reader_at to high) x.attempts x.records
      x.aborts state.kept x.left.kept

-- all clients ran n tasks each, in one round or several, in renewals `from` to `to`, and were
-- gathered: exactly the records of the completed tasks come after the earlier records, those of
-- each client in their order, and the slot of each client is as its tasks left it. The number of
-- attempts is the sum of those of the clients. Each aborted attempt of their traces, and each of
-- the earlier ones, is one of the later ones. No task of a single client is busy, and if the clock
-- has time, none finds the clock spent
pub record RanAll {D P : Type 0} (leads : D → ℕ → D → Type 0) (s : Settings)
    (shown_of : P → SlotShown D) (n from to : ℕ) (before : List Record) (slots : List P)
    (after : List Record) (left : List P) (t : Outcomes) (attempts : ℕ)
    (earlier later : List Aborted) : Type 0 where
  pub shares : List (Share (SlotShown D))
  pub each : Paired (λ p x. HasKeptShare leads s n from to (shown_of p) x) slots shares
  pub left_are : Paired (λ x p. shown_of p ≡ x.left) shares left
  pub rest : List Record
  pub behind : after ≡ before ++ rest
  pub each_once : InterleavedAll (λ x. x.records) shares rest
  pub tallies : t ≡ added_up (λ x. x.outcomes) shares
  pub made : attempts ≡ sum_of (λ x. x.attempts) shares
  pub stays : Within earlier later
  pub listed : AllWithin (λ x. x.aborts) shares later
  pub alone : length slots ≡ 1 → t.busy ≡ 0
  pub in_time : length slots ≡ 1 → HasTime s → t.spent ≡ 0

-- all clients ran n tasks each, in one round or several, starting from the records of this
-- caller's client and from these slots; the round has the results
abbrev pub RoundHasRun : {W D : Type 0} → (D → ℕ → D → Type 0) → (W → SlotShown D) → Settings → ℕ
    → CallerShown → List W → Round W → Type 0
RoundHasRun leads shown_of s n y slots r =
    RanAll leads s shown_of n y.shared.renewal r.manager.renewal y.user.value.records slots
    r.client.value.records r.slots.items r.counts.outcomes r.counts.attempts
    (all_aborted y.user.value) (all_aborted r.client.value)

-- a round of a load with these settings has a slot for each client, the limit on attempts of the
-- settings, and a solo client
pub record IsRound {W : Type 0} (s : Settings) (r : Round W) : Type 0 where
  pub number : vec_len r.slots ≡ s.clients
  pub tries : r.counts.tries ≡ s.tries
  pub alone : IsAloneInRenewal (caller_of r.manager r.client)

-- a load can be run with these settings and this number of clients
abbrev pub is_load : Settings → ℕ → Bool
is_load s clients = is_settings s && nat_eq clients s.clients

-- the fault says that memory was refused, or that a thread could not be started
abbrev pub IsLoadRefusal : LoadFault → Type 0
IsLoadRefusal e = (e ≡ load.Memory) ⊎ (e ≡ load.Spawn)

-- each worker of a crew ran its tasks of a round, or running them was refused
abbrev pub RunsCrew : {W D : Type 0} → (D → ℕ → D → Type 0) → (W → SlotShown D) → Settings
    → Crew W → Result (Crew W) LoadFault → Type 0
RunsCrew leads shown_of s crew result =
    IfOk result (DidAllWork leads shown_of s crew) × IfErr result IsLoadRefusal

-- the manager of a load was made with a clock that ends at the last version of the settings, and
-- the setup phase completed: all its commands were drawn from this state on, and each of them was
-- issued and completed. The records of the client are then a complete history of this manager
pub record HasOpened {D : Type 0} (leads : D → ℕ → D → Type 0) (s : Settings) (state left : D)
    (y : CallerShown) : Type 0 where
  pub stripes : ℕ
  pub opener : ClientShown
  pub opens : Opens s.blocks s.last stripes y.shared opener
  pub ran : RanDrawn leads y.shared.renewal (opening s) opener.value y.user.value state left
  pub answered : IsAnswered y.shared y.user.value

-- some manager was made in this way, and its client completed the setup phase
-- Not said: that this manager was the manager of this load.
abbrev pub WasOpened : {D : Type 0} → (D → ℕ → D → Type 0) → Settings → D → D → Type 0
WasOpened leads s state left = (y : CallerShown) × HasOpened leads s state left y

-- the fault is refused memory, or a spent clock whose version is the last one of the settings and
-- smaller than the number of commands in the setup phase
abbrev pub IsTooShort : Settings → Fault → Type 0
IsTooShort s fault.Arguments = ⊥
IsTooShort s fault.Memory = Unit {0}
IsTooShort s (fault.Busy conflict) = ⊥
IsTooShort s (fault.Spent version) = (version ≡ s.last) × (s.last < 4 * s.items)

-- the manager of a load was made, and the setup phase stopped with this fault: its commands
-- completed up to one that was refused, or for which the recorder had no room
-- Not said: that this manager was the manager of this load. Only some region and client are named.
pub record WasStopped {D : Type 0} (leads : D → ℕ → D → Type 0) (s : Settings) (e : Fault)
    (state left : D) : Type 0 where
  pub stripes : ℕ
  pub region : RegionShown
  pub opener : ClientShown
  pub opens : Opens s.blocks s.last stripes region opener
  pub after : Client
  pub stopped : Stopped leads region.renewal s.last (opening s) e opener.value after state left
  pub short : IsTooShort s e

-- the reason for which a load that could be run stopped, with the draws of the setup phase before
-- and after. For refused memory: no word was drawn, or the setup phase completed. For a thread:
-- the setup phase completed. For the setup phase: one of its commands was refused with this fault
-- Not said: if memory is refused after the setup phase, which memory: for the handle of a thread,
-- for a renewal or for closing; that a thread really could not be started.
-- Not said: that the setup phase was the one of this load. So if the clock has time, the contract
-- allows each of the three faults for any settings in range.
abbrev pub IsStopOfLoad : {D : Type 0} → (D → ℕ → D → Type 0) → Settings → D → D → LoadFault
    → Type 0
IsStopOfLoad leads s state left load.Arguments = ⊥
IsStopOfLoad leads s state left load.Memory = (left ≡ state) ⊎ WasOpened leads s state left
IsStopOfLoad leads s state left load.Spawn = WasOpened leads s state left
IsStopOfLoad leads s state left (load.Opening e) = WasStopped leads s e state left

-- the reason why a load that could be run did not run to its end, with the draws of the setup phase
-- in some state
-- Not said: when memory was refused, because such a load returns no draws.
abbrev pub StopsLoad : {D : Type 0} → (D → ℕ → D → Type 0) → Settings → D → LoadFault → Type 0
StopsLoad {D} leads s state e = (left : D) × IsStopOfLoad leads s state left e

-- the reason why a load did not run to its end: its arguments, or a stop
abbrev pub IsLoadFault : {D : Type 0} → (D → ℕ → D → Type 0) → Settings → D → LoadFault → Type 0
IsLoadFault leads s state e = (e ≡ load.Arguments) ⊎ StopsLoad leads s state e

-- the image represents a balanced state of a system of this many blocks
pub record IsBalancedHeap (blocks : ℕ) (image : List ℕ) : Type 0 where
  pub state : State
  pub shown : Shows image state
  pub capacity : state.capacity ≡ blocks

-- the result of a load: there is a history, legal from the empty state, whose final state has the
-- report. The history is also serial over words: it begins with the words of a partitioned heap,
-- and each record reads what the records before it leave. The image of each version represents a
-- balanced state, of a system of the settings' blocks. The commands of the setup phase come first,
-- followed by exactly the completed tasks, in the order of renewals and versions. The tasks
-- of a client are drawn in turn over all rounds, and the completed ones are in the history in their
-- order. Each version has at most one writer, and a reader wrote nothing. The counts cover all
-- tasks of all clients in all rounds; with a single client no task is busy, and if the clock has
-- time, none finds the clock spent
-- Not said: with several clients, that a task counted as busy or spent was issued; that a task
-- counted under memory was really refused memory. Tests count the completed calls.
-- Not said: the round in which a task completed; that the manager is renewed between two rounds;
-- that gates go on from round to round, or stay with their clients.
-- Not said: that threads run at once; that a thread is refused only if it could not be started.
-- Not said: that the history is that of a manager's clients. It is any legal history with these
-- tasks; `tests/history.py` has the histories of loads judged.
pub record HasLoaded {D P : Type 0} (leads : D → ℕ → D → Type 0) (s : Settings) (draws_of : P → D)
    (state : D) (pairs : List P) (t : Outcomes) (r : Report) : Type 0 where
  pub history : List Record
  pub last : State
  pub legal : IsLegal (empty_state s.blocks) history last
  pub shown : report last ≡ r
  pub opened : List Record
  pub rest : List Record
  pub opening_first : history ≡ opened ++ rest
  pub image : List ℕ
  pub heap : IsSpreadHeap image s.blocks
  pub serial : Serial image history
  pub balanced : (renewal version : ℕ) →
      IsBalancedHeap s.blocks (image_upto image renewal version history)
  pub in_order : Sorted history
  pub versioned : AreVersioned history
  pub commands : List Command
  pub drawn : D
  pub opening_is : Drawn leads (opening s) state commands drawn
  pub opened_are : AreOfTasks (as_tasks commands) opened
  pub shares : List (Share D)
  pub each : Paired (λ p x. HasShare leads s (s.rounds * s.tasks) (draws_of p) x) pairs shares
  pub each_once : InterleavedAll (λ x. x.records) shares rest
  pub tallies : t ≡ added_up (λ x. x.outcomes) shares
  pub all : total t ≡ s.rounds * s.clients * s.tasks
  pub alone : s.clients ≡ 1 → t.busy ≡ 0
  pub in_time : s.clients ≡ 1 → HasTime s → t.spent ≡ 0

-- all words that each of these aborted attempts has read are in the image of the attempt's read
-- version in the history. In the history of a load this is a balanced heap of the system's blocks
-- (`HasLoaded`)
abbrev pub HaveRead : List ℕ → List Record → List Aborted → Type 0
HaveRead image history aborts = (a : Aborted) → In a aborts →
    Agrees (image_upto image a.renewal a.version history) a.reads

-- a load with recorders of completed calls: the recorder of the setup phase kept the calls of the
-- setup phase, and the recorder of each client those of its client's tasks, each call once, in the
-- order of its records. A recorder whose traces are known has each attempt of its client, once, and
-- in turn, and those of aborted attempts stay in the recorder. All words that such an aborted
-- attempt has read are in the image of its read version in the load's history. The attempts of all
-- clients together are as many as the attempt statistics count
-- Not said: anything of aborted attempts if the traces are not known.
-- Not said: which calls the recorders keep if a load is refused; that a lack of room for a call
-- can be told from other refusals of memory.
-- Not said: that a recorder is asked for room before its call begins, and receives the call before
-- the call is reported to the gate.
pub record LoadedKept {D P : Type 0} (leads : D → ℕ → D → Type 0) (s : Settings)
    (draws_of : P → D) (state : D) (pairs : List P) (t : Outcomes) (r : Report) (attempts : ℕ)
    (before after : RecorderContents) (befores afters : List RecorderContents) : Type 0 where
  pub loaded : HasLoaded leads s draws_of state pairs t r
  pub setup_attempts : ℕ
  pub opening_aborts : List Aborted
  pub opening_kept : AreKept setup_attempts loaded.opened opening_aborts before after
  pub opening_read : HaveRead loaded.image loaded.history opening_aborts
  pub made : attempts ≡ sum_of (λ x. x.attempts) loaded.shares
  pub clients_kept : AllKept (λ x. x.attempts) (λ x. x.records) (λ x. x.aborts) loaded.shares
      befores afters
  pub clients_read : (x : Share D) → In x loaded.shares
      → HaveRead loaded.image loaded.history x.aborts
