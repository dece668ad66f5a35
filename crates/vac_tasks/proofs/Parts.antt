-- Tasks of one command, leaves and updates, out of the commands that they are made of.
use Rattle.std.proofs.Common.{◌≡◌, ℕ, ◌+◌, ◌-◌, ◌<◌, ◌≤◌, List, [], ◌∷◌, ◌++◌, length, Option, Some, None, refl, sym}
use Rattle.std.proofs.Common.{ap, ◌∙◌, subst, arith, slice_set, length-append, get_or, suc, zero}
use Rattle.std.specs.Prelude.{◌≡◌, Result, Ok, Err, IfOk, replicate, nat_le, ◌&&◌, true}
use Rattle.std.specs.List.{list_all}
use Rattle.std.specs.Option.{option_map}
use Rattle.tx_memory.specs.View.{View}
use Rattle.vac_model.specs.declared.commands.Command.{Command}
use Rattle.vac_model.specs.declared.commands.Command.TheVariants as command
use Rattle.vac_model.specs.declared.commands.Refusal.{Refusal}
use Rattle.vac_model.specs.declared.replies.Report.{Report}
use Rattle.vac_model.specs.declared.replies.Reply.{Reply}
use Rattle.vac_model.specs.declared.replies.Reply.TheVariants as reply
use Rattle.vac_model.specs.declared.tasks.Task.TheVariants as task
use Rattle.vac_model.specs.State.{State, Bookings, bookings_of, bill_of}
use Rattle.vac_model.specs.Step.{Outcome, step, when_found, number_answered}
use Rattle.vac_model.specs.Run.{leave, steps, refusal_of}
use Rattle.vac_model.specs.Amounts.{is_list_length}
use Rattle.vac_model.specs.Ranges.{is_change, is_command, is_task}
use Rattle.vac_model.proofs.Ids.{both_true}
use Rattle.vac_model.proofs.Kept.{le_true}
use Rattle.vac_model.proofs.Noted.{noted, steps_more, length-steps}
use Rattle.vac_records.specs.Items.{mem}
use Rattle.vac_records.specs.Steps.{kept_both, stood}
use Rattle.vac_records.specs.Represents.{IsState}
use Rattle.vac_records.specs.InMemory.{HoldsState, OnlyRead}
use Rattle.vac_tasks.specs.Entries.{LacksCustomer}
use Rattle.vac_tasks.specs.Ran.{IsOutcome, Ran, RanQuestion}
use Rattle.vac_tasks.specs.Reported.{Reported}
use Rattle.vac_tasks.specs.RanTask.{RanTask}
use Rattle.vac_tasks.specs.Runs.{Runs, changed}
use Rattle.vac_tasks.proofs.Held.{state_on, asked_reads, customer_none}

-- the outcome is this one, so the memory represents its state
pub outcome_is : (m : ℕ → ℕ) (n : ℕ) (o : Outcome) (after : State) (r : Reply) → o ≡ (after, r) → IsState m n after →
    IsOutcome m n o r
outcome_is m n o after r e h = subst (λ (z : Outcome). IsOutcome m n z r) (sym e)
    (record { state = h; reply_is = refl })

-- from the result of a call to the result that is answered
pub if_ok : {A E : Type 0} (P Q : A → Type 0) (r : Result A E) → ((v : A) → P v → Q v) → IfOk r (λ v. P v) →
    IfOk r (λ v. Q v)
if_ok P Q (Ok v) f h = f v h
if_ok P Q (Err e) f h = tt

-- the memory after a part of a task holds a state
pub held_runs : {A : Type 0} (s s' : View) (f : State → State × A) (a : A) → Runs s s' f a → HoldsState s →
    HoldsState s'
held_runs s s' f a runs h = record {
  inside = omega (arith, h.inside, runs.kept.size);
  small = omega (arith, h.small, runs.kept.size);
  under = λ image i. (let t = h.under image (stood runs.kept image i) in ((f t.0).0, runs.state image t.0 i.sees t.1));
}

pub ran_one : (s s' : View) (c : Command) (r : Reply) → Ran s s' c r → RanTask s s' (task.One c) r
ran_one s s' c r h = record { kept = h.kept; untouched = h.untouched; idle = h.idle; outcome = h.outcome }

pub asked_report : (s s' : View) (r : Report) → Reported s s' r → RanQuestion s s' command.Audit (reply.Report r)
asked_report s s' r h = asked_reads s s' command.Audit (reply.Report r) h.reads
    (λ image state i is. ap (λ (x : Report). (state, reply.Report x)) (h.is image state i is))

pub asked_only : (s s' : View) (c : Command) (r : Reply) → RanQuestion s s' c r → OnlyRead s s'
asked_only s s' c r h = record { kept = h.ran.kept; writes = h.writes }

-- a leave without a customer
pub left_none : (s s' : View) (id : ℕ) → OnlyRead s s' → LacksCustomer s' id →
    RanTask s s' (task.Leave id) (reply.Number None)
left_none s s' id reads l = record {
  kept = reads.kept;
  untouched = tt;
  idle = tt;
  outcome = λ image state i h.
      let h' = state_on s s' image state reads.writes h in
      let none = customer_none s' id l image state i h' in
      outcome_is (mem s' image) (length image) (leave state id) state (reply.Number None)
      (ap (λ (o : Option Bookings). when_found o (number_answered state None)
      (λ bookings. number_answered (step state (command.DropCustomer id)).0 (Some (bill_of bookings)))) none) h';
}

-- whose bill it is
record Billed (o : Option Bookings) (n : ℕ) : Type 0 where
  bookings : Bookings
  there : o ≡ Some bookings
  bill : bill_of bookings ≡ n

billed : (o : Option Bookings) (n : ℕ) → option_map bill_of o ≡ Some n → Billed o n
billed None n e = absurd (let never : ◌≡◌ {A = Option ℕ} None (Some n) = e in cc)
billed (Some b) n e = record {
  bookings = b;
  there = refl;
  bill = (let same : ◌≡◌ {A = Option ℕ} (Some (bill_of b))
      (Some n) = e in cc);
}

number_is : (a b : Option ℕ) → ◌≡◌ {A = Reply} (reply.Number a) (reply.Number b) → a ≡ b
number_is a b e = cc

leave_is : (state : State) (id n : ℕ) → Billed (bookings_of state id) n →
    leave state id ≡ ((step state (command.DropCustomer id)).0, reply.Number (Some n))
leave_is state id n b =
    ap (λ (o : Option Bookings). when_found o (number_answered state None)
    (λ bookings. number_answered (step state (command.DropCustomer id)).0 (Some (bill_of bookings)))) b.there
    ∙ ap (λ (k : ℕ). number_answered (step state (command.DropCustomer id)).0 (Some k)) b.bill

-- a leave of a customer who is there
pub left : (s s1 s2 s3 : View) (id n : ℕ) → OnlyRead s s1 → RanQuestion s1 s2 (command.Bill id) (reply.Number (Some n))
    →
    Ran s2 s3 (command.DropCustomer id) reply.Done → RanTask s s3 (task.Leave id) (reply.Number (Some n))
left s s1 s2 s3 id n reads asked ran = record {
  kept = kept_both s s2 s3 (kept_both s s1 s2 reads.kept asked.ran.kept) ran.kept;
  untouched = tt;
  idle = tt;
  outcome = λ image state i h.
      let h1 = state_on s s1 image state reads.writes h in
      let h2 = state_on s1 s2 image state asked.writes h1 in
      let answer = (asked.ran.outcome image state (ran.kept.seen image i) h1).reply_is in
      let b = billed (bookings_of state id) n (number_is (option_map bill_of (bookings_of state id)) (Some n) answer) in
      outcome_is (mem s3 image) (length image) (leave state id) (step state (command.DropCustomer id)).0
      (reply.Number (Some n))
      (leave_is state id n b) (ran.outcome image state i h2).state;
}

-- an update has at most 32 changes
pub few_changes : (cs : List Command) → is_task (task.Update cs) ≡ true → length cs ≤ 32
few_changes cs e =
    let outer = both_true (is_list_length (length cs)) (list_all (λ c. is_change c && is_command c) cs) e in
    let inner = both_true (nat_le 1 (length cs)) (nat_le (length cs) 32) outer.0 in
    le_true (length cs) 32 inner.1

all_in_range : (cs : List Command) (i : ℕ) (d : Command) → i < length cs →
    list_all (λ c. is_change c && is_command c) cs ≡ true → is_command (get_or cs i d) ≡ true
all_in_range [] i d l e = absurd (omega (arith, l))
all_in_range (c ∷ cs) zero d l e =
    let first = both_true (is_change c && is_command c) (list_all (λ x. is_change x && is_command x) cs) e in
    (both_true (is_change c) (is_command c) first.0).1
all_in_range (c ∷ cs) (suc i) d l e =
    let rest = both_true (is_change c && is_command c) (list_all (λ x. is_change x && is_command x) cs) e in
    all_in_range cs i d (omega (arith, l)) rest.1

-- each change of an update can be asked for
pub change_in_range : (cs : List Command) (i : ℕ) (d : Command) → i < length cs → is_task (task.Update cs) ≡ true →
    is_command (get_or cs i d) ≡ true
change_in_range cs i d l e = all_in_range cs i d l
    (both_true (is_list_length (length cs)) (list_all (λ c. is_change c && is_command c) cs) e).1

-- the changes so far and one more
after_more : (state : State) (cs ds : List Command) (c : Command) (r : Reply) → ds ≡ cs ++ c ∷ [] →
    (step (steps state cs).0 c).1 ≡ r →
    steps state ds ≡ ((step (steps state cs).0 c).0, (steps state cs).1 ++ refusal_of r ∷ [])
after_more state cs ds c r one is =
    steps_more state (steps state cs).0 (step (steps state cs).0 c).0 cs ds c r refl one
    (ap (λ (x : Reply). ((step (steps state cs).0 c).0, x)) is)

noted_more : (state : State) (cs ds : List Command) (c : Command) (r : Reply) (whys : List (Option Refusal)) (i : ℕ)
    (w : Option Refusal) → ds ≡ cs ++ c ∷ [] →
    length cs ≡ i → i < 32 → w ≡ refusal_of r → (steps state cs).1 ++ replicate (32 - length cs) None ≡ whys →
    (step (steps state cs).0 c).1 ≡ r →
    (steps state ds).1 ++ replicate (32 - length ds) None ≡ slice_set whys i w
noted_more state cs ds c r whys i w one at short why before is =
    let count : length ds ≡ i + 1 = ap length one ∙ length-append cs (c ∷ []) ∙ ap (λ (k : ℕ). k + 1) at in
    let after = after_more state cs ds c r one is in
    ap (λ (o : State × List (Option Refusal)). o.1 ++ replicate (32 - length ds) None) after
    ∙ ap (λ (k : ℕ). ((steps state cs).1 ++ refusal_of r ∷ []) ++ replicate (32 - k) None) count
    ∙ ap (λ (x : Option Refusal). ((steps state cs).1 ++ x ∷ []) ++ replicate (32 - (i + 1)) None) (sym why)
    ∙ sym (noted (steps state cs).1 i w (length-steps state cs ∙ at) short)
    ∙ ap (λ (k : ℕ). slice_set ((steps state cs).1 ++ replicate (32 - k) None) i w) (sym at)
    ∙ ap (λ (ws : List (Option Refusal)). slice_set ws i w) before

pub changed_more : (s s1 s2 : View) (cs ds : List Command) (c : Command) (r : Reply) (whys : List (Option Refusal))
    (i : ℕ)
    (w : Option Refusal) →
    Runs s s1 (changed cs) whys → Ran s1 s2 c r → ds ≡ cs ++ c ∷ [] → length cs ≡ i → i < 32 → w ≡ refusal_of r →
    Runs s s2 (changed ds) (slice_set whys i w)
changed_more s s1 s2 cs ds c r whys i w before ran one at short why = record {
  kept = kept_both s s1 s2 before.kept ran.kept;
  state = λ image state sees h.
      let sees1 = ran.kept.seen image sees in
      let o = ran.outcome image (steps state cs).0 sees (before.state image state sees1 h) in
      let after = after_more state cs ds c r one o.reply_is in
      subst (λ (x : State × List (Option Refusal)). IsState (mem s2 image) (length image) x.0) (sym after) o.state;
  answer = λ image state sees h.
      let sees1 = ran.kept.seen image sees in
      let o = ran.outcome image (steps state cs).0 sees (before.state image state sees1 h) in
      noted_more state cs ds c r whys i w one at short why (before.answer image state sees1 h) o.reply_is;
}

-- an update out of all its changes
pub updated : (s s' : View) (cs : List Command) (whys : List (Option Refusal)) → Runs s s' (changed cs) whys →
    RanTask s s' (task.Update cs) (reply.Update (record { len = length cs; refused = whys }))
updated s s' cs whys runs = record {
  kept = runs.kept;
  untouched = tt;
  idle = tt;
  outcome = λ image state i h. record {
    state = runs.state image state i h;
    reply_is = ap (λ (ws : List (Option Refusal)). reply.Update (record { len = length cs; refused = ws }))
        (runs.answer image state i h);
  };
}
