-- Tasks that were answered, and how they are counted.
use Rattle.std.proofs.Common.{◌≡◌, refl, sym, ap, subst, IfOk, ◌∙◌, inl, inr, ◌⊎◌, arith, ℕ, zero, suc, ◌+◌, ◌*◌, ◌≤◌}
use Rattle.std.proofs.Common.{List, [], ◌∷◌, ◌++◌, length, Result, Ok, Err, append_assoc, append-nil, length-append}
use mathlib.Core.Option.{some-injective, some-ne-none}
use Rattle.tx_memory.specs.Image.{In}
use Rattle.stm_core.specs.Client.{Client, Record, before}
use Rattle.stm_core.specs.History.{Sub, done, keep, skip}
use Rattle.stm_core.proofs.Renewing.{sorted_append}
use Rattle.vac_model.specs.declared.tasks.Task.{Task}
use Rattle.vac_model.specs.declared.replies.Reply.{Reply}
use Rattle.vac_model.specs.Code.{code}
use Rattle.vac_manager.specs.Called.{Adds, HasAllGrants}
use Rattle.vac_manager.specs.declared.fault.Fault.{Fault}
use Rattle.vac_manager.specs.declared.fault.Fault.TheVariants as fault
use Rattle.load_tasks.specs.declared.settings.Settings.{Settings}
use Rattle.load_run.specs.declared.outcomes.Outcomes.{Outcomes}
use Rattle.load_tasks.specs.Tasks.{task_of, DrawnTask}
use Rattle.load_run.specs.Looping.{AreOfTasks, IsAdded, Answered, total, nothing, counted, least_attempts}
use Rattle.load_run.specs.Looping.{least_attempts_of, answered_by, Looped}
use Rattle.load_tasks.proofs.Drawing.{drawn_always, drawn_times}
use Rattle.load_run.proofs.Order.{added_known, added_later, known_first}

pub are_of_both : (ts us : List Task) (rs qs : List Record) → AreOfTasks ts rs → AreOfTasks us qs →
    AreOfTasks (ts ++ us) (rs ++ qs)
are_of_both [] us [] qs p q = q
are_of_both [] us (r ∷ rs) qs p q = absurd p
are_of_both (t ∷ ts) us [] qs p q = absurd p
are_of_both (t ∷ ts) us (r ∷ rs) qs p q = (p.0, are_of_both ts us rs qs p.1 q)

in_none : (r : Record) → In r [] → ⊥
in_none r i = some-ne-none r (sym i.1)

pub in_both : (rs qs : List Record) (r : Record) → In r (rs ++ qs) → In r rs ⊎ In r qs
in_both [] qs r i = inr i
in_both (x ∷ rs) qs r (zero, e) = inl (zero, e)
in_both (x ∷ rs) qs r (suc j, e) = elim (in_both rs qs r (j, e)) [ inl k ↦ inl (suc k.0, k.1) | inr k ↦ inr k ]

pub answered_quiet : (n : ℕ) (v v' : Client) → v'.records ≡ v.records → v.floor ≤ v'.floor → v'.grants ≡ v.grants →
    Answered n [] v v'
answered_quiet n v v' same floor grants = record {
  added = [];
  records = same ∙ sym (append-nil v.records);
  are_of = tt;
  each = λ r i. absurd (in_none r i);
  sorted = tt;
  floor = floor;
  grants = grants;
}

in_one : (n before now : ℕ) (x r : Record) → IsAdded n before now x → In r (x ∷ []) → IsAdded n before now r
in_one n before now x r h (zero, e) = subst (λ (y : Record). IsAdded n before now y) (some-injective x r e) h
in_one n before now x r h (suc j, e) = absurd (some-ne-none r (sym e))

pub answered_one : (n : ℕ) (t : Task) (reply : Reply) (v v' : Client) → Adds n (code t reply) v v' →
    v.floor ≤ v'.floor → v'.grants ≡ v.grants → Answered n (t ∷ []) v v'
answered_one n t reply v v' a floor grants = record {
  added = a.added ∷ [];
  records = a.records;
  are_of = ((reply, a.tag_is), tt);
  each = λ r i. in_one n v.floor v'.floor a.added r (record {
    renewal_is = a.renewal_is;
    unplaced = a.unplaced;
    later = a.later;
    behind = a.behind;
    known = a.known;
  }) i;
  sorted = ((λ r i. absurd (in_none r i)), tt);
  floor = floor;
  grants = grants;
}

added_wider : (n a b c d : ℕ) (r : Record) → a ≤ b → c ≤ d → IsAdded n b c r → IsAdded n a d r
added_wider n a b c d r l m h = record {
  renewal_is = h.renewal_is;
  unplaced = h.unplaced;
  later = omega (arith, l, h.later);
  behind = omega (arith, l, h.behind);
  known = omega (arith, m, h.known);
}

pub answered_both : (n : ℕ) (ts us : List Task) (v w u : Client) → Answered n ts v w → Answered n us w u →
    Answered n (ts ++ us) v u
answered_both n ts us v w u p q = record {
  added = p.added ++ q.added;
  records = rw q.records (rw p.records (append_assoc v.records p.added q.added));
  are_of = are_of_both ts us p.added q.added p.are_of q.are_of;
  each = λ r i. elim (in_both p.added q.added r i) [
    | inl j ↦ added_wider n v.floor v.floor w.floor u.floor r (omega arith) q.floor (p.each r j)
    | inr j ↦ added_wider n v.floor w.floor u.floor u.floor r p.floor (omega arith) (q.each r j)
  ];
  sorted = sorted_append p.added q.added p.sorted q.sorted (λ x y i j. known_first n w.floor x y
      (added_known n v.floor w.floor x (p.each x i)) (added_later n w.floor w.floor u.floor y (omega arith)
      (q.each y j)));
  floor = omega (arith, p.floor, q.floor);
  grants = q.grants ∙ p.grants;
}

sub_last : (us : List Task) (t : Task) → Sub (t ∷ []) (us ++ (t ∷ []))
sub_last [] t = keep t done
sub_last (u ∷ us) t = skip u (sub_last us t)

sub_keep : (ts us : List Task) (t : Task) → Sub ts us → Sub (ts ++ (t ∷ [])) (us ++ (t ∷ []))
sub_keep ts us t (done {ys = ys}) = sub_last ys t
sub_keep ts us t (keep x p) = keep x (sub_keep _ _ t p)
sub_keep ts us t (skip y p) = skip y (sub_keep _ _ t p)

sub_skip : (ts us : List Task) (t : Task) → Sub ts us → Sub ts (us ++ (t ∷ []))
sub_skip ts us t done = done
sub_skip ts us t (keep x p) = keep x (sub_skip _ _ t p)
sub_skip ts us t (skip y p) = skip y (sub_skip _ _ t p)

pub total_counted : {R : Type 0} (end : Result R Fault) (t : Outcomes) → total (counted end t) ≡ total t + 1
total_counted (Ok reply) t = omega arith
total_counted (Err fault.Arguments) t = omega arith
total_counted (Err fault.Memory) t = omega arith
total_counted (Err (fault.Busy conflict)) t = omega arith
total_counted (Err (fault.Spent version)) t = omega arith

one_more : (n k : ℕ) → (n + 1) * k ≡ n * k + 1 * k
one_more n k = grind arith

attempts_counted : {R : Type 0} (tries : ℕ) (end : Result R Fault) (t : Outcomes) →
    least_attempts tries (counted end t) ≡ least_attempts tries t + least_attempts_of tries end
attempts_counted tries (Ok reply) t = omega arith
attempts_counted tries (Err fault.Arguments) t = omega arith
attempts_counted tries (Err fault.Memory) t = omega arith
attempts_counted tries (Err (fault.Busy conflict)) t = omega (arith, one_more t.busy tries)
attempts_counted tries (Err (fault.Spent version)) t = omega arith

busy_counted : {R : Type 0} (end : Result R Fault) (t : Outcomes) →
    (counted end t).busy ≡ t.busy + (counted end nothing).busy
busy_counted (Ok reply) t = omega arith
busy_counted (Err fault.Arguments) t = omega arith
busy_counted (Err fault.Memory) t = omega arith
busy_counted (Err (fault.Busy conflict)) t = omega arith
busy_counted (Err (fault.Spent version)) t = omega arith

-- a task that was built was issued and had this result, with a conflict only if other clients were
-- out; a task that could not be built has the result that memory was refused
abbrev pub RanOne : {R E : Type 0} → ℕ → Result Task E → ℕ → Result R Fault → Client → Client
    → Type 0
RanOne renewal (Ok t) tries end v v' = Answered renewal (answered_by t end) v v'
    × (v.attempt.number + least_attempts_of tries end ≤ v'.attempt.number)
    × (HasAllGrants v → (counted end nothing).busy ≡ 0)
RanOne renewal (Err e) tries end v v' = (end ≡ Err fault.Memory) × (v' ≡ v)

-- what one task adds to a loop
record Turn {R : Type 0} (n : ℕ) (t : Task) (end : Result R Fault) (tries : ℕ) (v v' : Client) : Type 0 where
  pub answered : Answered n (answered_by t end) v v'
  pub attempts : v.attempt.number + least_attempts_of tries end ≤ v'.attempt.number
  pub alone : HasAllGrants v → (counted end nothing).busy ≡ 0

-- what one task adds to a loop, also one that was not built
turn_of : {R E : Type 0} (n : ℕ) (built : Result Task E) (t : Task) (end : Result R Fault) (tries : ℕ) (v v' : Client) →
    IfOk built (λ b. b ≡ t) → RanOne n built tries end v v' → Turn n t end tries v v'
turn_of n (Ok b) t end tries v v' same ran =
    record {
      answered = subst (λ (x : Task). Answered n (answered_by x end) v v') same ran.0;
      attempts = ran.1;
      alone = ran.2;
    }
turn_of n (Err e) t end tries v v' same ran = rw ran.0 (rw ran.1 (record {
  answered = answered_quiet n v v refl (omega arith) refl;
  attempts = omega arith;
  alone = λ h. refl;
}))

among_more : {R : Type 0} (end : Result R Fault) (t : Task) (ts us : List Task) → Sub ts us →
    Sub (ts ++ answered_by t end) (us ++ (t ∷ []))
among_more (Ok reply) t ts us p = sub_keep ts us t p
among_more (Err e) t ts us p = rw (append-nil ts) (sub_skip ts us t p)

number_more : {R : Type 0} (end : Result R Fault) (t : Task) (n : ℕ) (k : Outcomes) → n ≡ k.answered →
    n + length (answered_by t end) ≡ (counted end k).answered
number_more (Ok reply) t n k e = omega (arith, e)
number_more (Err fault.Arguments) t n k e = omega (arith, e)
number_more (Err fault.Memory) t n k e = omega (arith, e)
number_more (Err (fault.Busy conflict)) t n k e = omega (arith, e)
number_more (Err (fault.Spent version)) t n k e = omega (arith, e)

pub looped_none : {D : Type 0} (leads : D → ℕ → D → Type 0) (s : Settings) (renewal : ℕ) (v : Client) (a : D) →
    Looped leads s renewal 0 v v a a nothing
looped_none leads s renewal v a = record {
  tasks = [];
  drawn = drawn_always leads a [];
  done = [];
  among = done;
  number = refl;
  answered = answered_quiet renewal v v refl (omega arith) refl;
  all = refl;
  attempts = omega arith;
  alone = λ h. refl;
}

pub looped_more : {D R E : Type 0} (leads : D → ℕ → D → Type 0) (s : Settings) (renewal n : ℕ) (v w u : Client)
    (a b c : D) (k : Outcomes) (built : Result Task E) (end : Result R Fault) →
    Looped leads s renewal n v w a b k → DrawnTask leads (task_of s) b built c → RanOne renewal built s.tries end w u →
    Looped leads s renewal (n + 1) v u a c (counted end k)
looped_more leads s renewal n v w u a b c k built end l d ran =
    let turn = turn_of renewal built d.task end s.tries w u d.built ran in
    record {
      tasks = l.tasks ++ (d.task ∷ []);
      drawn = drawn_times leads n (task_of s) a l.tasks b d.task c l.drawn d.drawn;
      done = l.done ++ answered_by d.task end;
      among = among_more end d.task l.done l.tasks l.among;
      number = length-append l.done (answered_by d.task end) ∙ number_more end d.task (length l.done) k l.number;
      answered = answered_both renewal l.done (answered_by d.task end) v w u l.answered turn.answered;
      all = total_counted end k ∙ ap (λ (m : ℕ). m + 1) l.all;
      attempts = rw (attempts_counted s.tries end k) (omega (arith, l.attempts, turn.attempts));
      alone = λ h. (let none = l.alone h in let one = turn.alone (l.answered.grants ∙ h) in
          omega (arith, busy_counted end k, none, one));
    }
