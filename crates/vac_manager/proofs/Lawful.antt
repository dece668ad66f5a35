-- The body of a task does what its entry says.
use Rattle.std.proofs.Common.{◌≡◌, ℕ, Bool, true, false, eqb, not, ◌&&◌, ◌==◌, is_none, Option, Some, None, arith, refl}
use Rattle.std.proofs.Common.{Result, Ok, Err, IfOk}
use Rattle.std.proofs.lemmas.Bool.Decides.{nat_tests}
use Rattle.tx_memory.specs.View.{View}
use Rattle.stm_region.specs.Shown.{RegionShown}
use Rattle.stm_object.specs.Bodies.{HasValue, HasEffect}
use Rattle.vac_model.specs.declared.tasks.Task.{Task}
use Rattle.vac_model.specs.declared.replies.Reply.{Reply}
use Rattle.vac_model.specs.Ranges.{is_task}
use Rattle.vac_records.specs.InMemory.{HoldsState}
use Rattle.vac_model.specs.declared.commands.Command.{Command}
use Rattle.vac_model.specs.declared.commands.Command.TheVariants as command
use Rattle.vac_model.specs.declared.tasks.Task.TheVariants as task
use Rattle.vac_model.specs.declared.replies.Reply.TheVariants as reply
use Rattle.vac_tasks.specs.Reading.{is_question, only_reads}
use Rattle.vac_tasks.specs.Ran.{Untouched, Idle}
use Rattle.vac_tasks.specs.RanTask.{RanTask}
use Rattle.vac_manager.specs.Law.{vacation}
use Rattle.vac_manager.specs.Called.{IsOpened, has_no_change, changes_nothing}

-- a memory that holds a value holds a state
pub holds : (s : View) → HasValue vacation s → HoldsState s
holds s h = record {
  inside = h.size.0;
  small = let few = h.size.1 in omega (arith, few);
  under = λ image i. h.under image i.sees;
}

-- what ran did what the task's entry says
pub did : (s s' : View) (t : Task) (r : Reply) → is_task t ≡ true → RanTask s s' t r → HasEffect vacation s s' (t, r)
did s s' t r range ran = (
  range,
  λ image state i h. let o = ran.outcome image state i h in (o.reply_is, o.state),
)

and_true : (a b : Bool) → (a && b) ≡ true → (a ≡ true) × (b ≡ true)
and_true true b e = (refl, e)
and_true false b e = absurd (let n : false ≡ true = e in cc)

nat_eq_of : (n : ℕ) → (n == 0) ≡ true → n ≡ 0
nat_eq_of n e = grind (arith, nat_tests)

none_of : (o : Option ℕ) → is_none o ≡ true → o ≡ None
none_of None e = refl
none_of (Some n) e = absurd (let n : false ≡ true = e in cc)

-- a command that has nothing to change, and is no question, wrote nothing
idle_wrote : (s s' : View) (c : Command) → is_question c ≡ false → Idle s s' c → has_no_change c ≡ true →
    s'.writes ≡ s.writes
idle_wrote s s' (command.Add kind id num price) q idle e = let b = and_true (eqb num 0) (is_none price) e in
    idle (nat_eq_of num b.0) (none_of price b.1)
idle_wrote s s' (command.Delete kind id num) q idle e = idle (nat_eq_of num e)
idle_wrote s s' (command.DropFlight id) q idle e = absurd (let n : false ≡ true = e in cc)
idle_wrote s s' (command.NewCustomer id) q idle e = absurd (let n : false ≡ true = e in cc)
idle_wrote s s' (command.DropCustomer id) q idle e = absurd (let n : false ≡ true = e in cc)
idle_wrote s s' (command.Free kind id) q idle e = absurd (let n : true ≡ false = q in cc)
idle_wrote s s' (command.Price kind id) q idle e = absurd (let n : true ≡ false = q in cc)
idle_wrote s s' (command.Bill id) q idle e = absurd (let n : true ≡ false = q in cc)
idle_wrote s s' (command.Reserve customer kind id num) q idle e = absurd (let n : false ≡ true = e in cc)
idle_wrote s s' (command.Cancel customer kind id) q idle e = absurd (let n : false ≡ true = e in cc)
idle_wrote s s' command.Audit q idle e = absurd (let n : true ≡ false = q in cc)

-- so did one that is refused
command_wrote : (s s' : View) (c : Command) (r : Reply) → is_question c ≡ false → Untouched s s' r → Idle s s' c →
    changes_nothing (task.One c) r ≡ true → s'.writes ≡ s.writes
command_wrote s s' c reply.Done q u idle e = idle_wrote s s' c q idle e
command_wrote s s' c (reply.Number n) q u idle e = idle_wrote s s' c q idle e
command_wrote s s' c (reply.Report report) q u idle e = idle_wrote s s' c q idle e
command_wrote s s' c (reply.No why) q u idle e = u
command_wrote s s' c (reply.Trip trip) q u idle e = idle_wrote s s' c q idle e
command_wrote s s' c (reply.Update update) q u idle e = idle_wrote s s' c q idle e

task_wrote : (s s' : View) (t : Task) (r : Reply) → only_reads t ≡ false → RanTask s s' t r →
    changes_nothing t r ≡ true → s'.writes ≡ s.writes
task_wrote s s' (task.One c) r q ran e = command_wrote s s' c r q ran.untouched ran.idle e
task_wrote s s' (task.Trip customer asks) r q ran e = absurd (let n : false ≡ true = e in cc)
task_wrote s s' (task.Leave customer) r q ran e = absurd (let n : false ≡ true = e in cc)
task_wrote s s' (task.Update changes) r q ran e = absurd (let n : false ≡ true = e in cc)

no_change : (b : Bool) → not b ≡ false → b ≡ true
no_change true e = refl
no_change false e = absurd (let n : true ≡ false = e in cc)

-- so did one whose answer changes nothing
pub wrote_nothing : (s s' : View) (t : Task) (r : Reply) → only_reads t ≡ false → RanTask s s' t r →
    not (changes_nothing t r) ≡ false → s'.writes ≡ s.writes
wrote_nothing s s' t r q ran e = task_wrote s s' t r q ran (no_change (changes_nothing t r) e)

-- the region's words are so many
pub few : (region : RegionShown) → IsOpened region → vacation.IsSize region.size
few region h = (omega (arith, h.size), h.small)

pub ok_did : {X : Type 0} (s s' : View) (t : Task) (result : Result Reply X) → is_task t ≡ true →
    IfOk result (λ r. RanTask s s' t r) → IfOk result (λ r. HasEffect vacation s s' (t, r))
ok_did s s' t (Ok r) range ran = did s s' t r range ran
ok_did s s' t (Err e) range ran = tt

pub ok_wrote : {X : Type 0} (s s' : View) (t : Task) (result : Result Reply X) → only_reads t ≡ false →
    IfOk result (λ r. RanTask s s' t r) →
    IfOk result (λ r. not (changes_nothing t r) ≡ false → s'.writes ≡ s.writes)
ok_wrote s s' t (Ok r) q ran = λ e. wrote_nothing s s' t r q ran e
ok_wrote s s' t (Err e) q ran = tt
