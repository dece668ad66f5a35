-- The effect of a client's loop over its tasks.
use Rattle.std.specs.Prelude.{◌≡◌, ℕ, ◌+◌, ◌*◌, ◌<◌, ◌≤◌}
use Rattle.std.specs.Prelude.{List, [], ◌∷◌, ◌++◌, length, Result, Ok, Err}
use Rattle.tx_memory.specs.Image.{In}
use Rattle.stm_core.specs.Client.{Client, Record, rank}
use Rattle.stm_core.specs.History.{Sub}
use Rattle.stm_core.specs.Invariant.{Sorted}
use Rattle.vac_model.specs.declared.tasks.Task.{Task}
use Rattle.vac_model.specs.declared.replies.Reply.{Reply}
use Rattle.vac_model.specs.Code.{code}
use Rattle.vac_manager.specs.Called.{HasAllGrants}
use Rattle.vac_manager.specs.declared.fault.Fault.{Fault}
use Rattle.vac_manager.specs.declared.fault.Fault.TheVariants as fault
use Rattle.load_tasks.specs.declared.settings.Settings.{Settings}
use Rattle.load_run.specs.declared.outcomes.Outcomes.{Outcomes}
use Rattle.load_tasks.specs.Draws.{Drawn, times_over}
use Rattle.load_tasks.specs.Tasks.{task_of}

-- the lists are equally long, and each record is of the task at its position and of some reply
abbrev pub AreOfTasks : List Task → List Record → Type 0
AreOfTasks [] [] = Unit {0}
AreOfTasks [] (r ∷ rs) = ⊥
AreOfTasks (t ∷ ts) [] = ⊥
AreOfTasks (t ∷ ts) (r ∷ rs) = ((reply : Reply) × (r.tag ≡ code t reply)) × AreOfTasks ts rs

-- the record was added in this renewal by a client that knew version `before` earlier and knows
-- version `after` now: its version is between the two, and it comes after the writer of version
-- `before`
pub record IsAdded (renewal before after : ℕ) (r : Record) : Type 0 where
  pub renewal_is : r.renewal ≡ renewal
  pub unplaced : r.point ≡ 0
  pub later : before ≤ r.version
  pub behind : 2 * before < rank r
  pub known : r.version ≤ after

-- the record does not come after any record that a client with this known version adds in this
-- renewal
pub record IsKnownRecord (renewal version : ℕ) (r : Record) : Type 0 where
  pub present : r.renewal ≤ renewal
  pub known : r.renewal ≡ renewal → r.version ≤ version
  pub unplaced : r.renewal ≡ renewal → r.point ≡ 0

-- no record of the list comes after any record that a client with this known version adds in this
-- renewal
abbrev pub AreKnown : ℕ → ℕ → List Record → Type 0
AreKnown renewal version records = (r : Record) → In r records → IsKnownRecord renewal version r

-- exactly one record for each of these tasks was added in this renewal, in the order of the tasks,
-- and the added records are sorted by commit position
pub record Answered (renewal : ℕ) (tasks : List Task) (v v' : Client) : Type 0 where
  pub added : List Record
  pub records : v'.records ≡ v.records ++ added
  pub are_of : AreOfTasks tasks added
  pub each : (r : Record) → In r added → IsAdded renewal v.floor v'.floor r
  pub sorted : Sorted added
  pub floor : v.floor ≤ v'.floor
  pub grants : v'.grants ≡ v.grants

-- the number of counted tasks
abbrev pub total : Outcomes → ℕ
total t = t.answered + t.busy + t.memory + t.spent

-- the counts of no task
abbrev pub nothing : Outcomes
nothing = record { answered = 0; busy = 0; memory = 0; spent = 0 }

-- the counts with one more task, by its result
abbrev pub counted : {R : Type 0} → Result R Fault → Outcomes → Outcomes
counted (Ok reply) t = record t { answered = t.answered + 1 }
counted (Err fault.Arguments) t = record t { memory = t.memory + 1 }
counted (Err fault.Memory) t = record t { memory = t.memory + 1 }
counted (Err (fault.Busy conflict)) t = record t { busy = t.busy + 1 }
counted (Err (fault.Spent version)) t = record t { spent = t.spent + 1 }

-- the sums of both counts
abbrev pub plus : Outcomes → Outcomes → Outcomes
plus t u = record {
  answered = t.answered + u.answered;
  busy = t.busy + u.busy;
  memory = t.memory + u.memory;
  spent = t.spent + u.spent;
}

-- the least number of attempts that the counted tasks made, if each may make this many attempts
abbrev pub least_attempts : ℕ → Outcomes → ℕ
least_attempts tries t = t.answered + t.spent + t.busy * tries

-- a client issued the first n of its tasks: the completed tasks are a sublist of the drawn ones,
-- in their order, and each of them added its record. A solo client met no conflict
-- Not said: that each completed call is reported to the gate; that a task counted under memory was
-- issued at all. Tests count both.
pub record Looped {D : Type 0} (leads : D → ℕ → D → Type 0) (s : Settings) (renewal n : ℕ)
    (v v' : Client) (state last : D) (t : Outcomes) : Type 0 where
  pub tasks : List Task
  pub drawn : Drawn leads (times_over n (task_of s)) state tasks last
  pub done : List Task
  pub among : Sub done tasks
  pub number : length done ≡ t.answered
  pub answered : Answered renewal done v v'
  pub all : total t ≡ n
  pub attempts : v.attempt.number + least_attempts s.tries t ≤ v'.attempt.number
  pub alone : HasAllGrants v → t.busy ≡ 0

-- the versions of a solo client with a clock that ends at version `last`: each completed task
-- raised the version that the client knows by at most one, and if a task found the clock spent,
-- the completed tasks had raised that version to the last one
pub record Clocked (last : ℕ) (v v' : Client) (t : Outcomes) : Type 0 where
  pub near : t.spent ≡ 0 → v'.floor ≤ v.floor + t.answered
  pub spent : 0 < t.spent → last ≤ v.floor + t.answered

-- the least number of attempts of a task with this result, if the task may make this many attempts
abbrev pub least_attempts_of : {R : Type 0} → ℕ → Result R Fault → ℕ
least_attempts_of tries end = least_attempts tries (counted end nothing)

-- the task if its call completed, and no task otherwise
abbrev pub answered_by : {R : Type 0} → Task → Result R Fault → List Task
answered_by t (Ok reply) = t ∷ []
answered_by t (Err e) = []
