-- What a client that is alone makes of its clock.
use Rattle.std.proofs.Common.{◌≡◌, ◌+◌, ◌≤◌, ◌<◌, ℕ, zero, suc, Result, Ok, Err, refl, arith}
use Rattle.stm_core.specs.Client.{Client}
use Rattle.vac_model.specs.declared.replies.Reply.{Reply}
use Rattle.vac_manager.specs.declared.fault.Fault.{Fault}
use Rattle.vac_manager.specs.declared.fault.Fault.TheVariants as fault
use Rattle.vac_manager.specs.Called.{IsNext}
use Rattle.load_run.specs.declared.outcomes.Outcomes.{Outcomes}
use Rattle.load_run.specs.Looping.{Clocked, nothing, counted, total}

pub clocked_none : (last : ℕ) (v : Client) → Clocked last v v nothing
clocked_none last v = record { near = λ e. omega arith; spent = λ h. absurd (omega (arith, h)) }

-- a task that was not asked for
pub clocked_quiet : (last : ℕ) (v v' : Client) → v' ≡ v → Clocked last v v'
    (counted {R = Unit {0}} (Err fault.Memory) nothing)
clocked_quiet last v v' same = rw same (record { near = λ e. omega arith; spent = λ h. absurd (omega (arith, h)) })

-- a task that was answered
pub clocked_answered : (last : ℕ) (reply : Reply) (v v' : Client) → IsNext last v.floor v'.floor (Ok reply) →
    Clocked last v v' (counted {R = Unit {0}} (Ok tt) nothing)
clocked_answered last reply v v' n = record { near = λ e. omega (arith, n); spent = λ h. absurd (omega (arith, h)) }

-- one that was refused
pub clocked_refused : (last : ℕ) (f : Fault) (v v' : Client) → IsNext last v.floor v'.floor (Err f) →
    Clocked last v v' (counted {R = Unit {0}} (Err f) nothing)
clocked_refused last fault.Arguments v v' n = record {
  near = λ e. omega (arith, n);
  spent = λ h. absurd (omega (arith, h));
}
clocked_refused last fault.Memory v v' n = record {
  near = λ e. omega (arith, n);
  spent = λ h. absurd (omega (arith, h));
}
clocked_refused last (fault.Busy conflict) v v' n = absurd n
clocked_refused last (fault.Spent version) v v' n = record {
  near = λ e. absurd (omega (arith, e));
  spent = λ h. omega (arith, n);
}

-- the first task that finds the clock at its end, or one behind it
spent_on : (last first now answered spent : ℕ) → (spent ≡ 0 → now ≤ first + answered) →
    (0 < spent → last ≤ first + answered) → last ≤ now → last ≤ first + answered
spent_on last first now answered zero near before l = let n = near refl in omega (arith, n, l)
spent_on last first now answered (suc k) near before l = before (omega arith)

-- one task more
pub clocked_more : {R : Type 0} (last : ℕ) (end : Result R Fault) (v w u : Client) (t : Outcomes) → Clocked last v w t →
    Clocked last w u (counted end nothing) → Clocked last v u (counted end t)
clocked_more last (Ok reply) v w u t h k = record {
  near = λ e. (let a = h.near e in let b = k.near refl in omega (arith, a, b));
  spent = λ p. (let a = h.spent p in omega (arith, a));
}
clocked_more last (Err fault.Arguments) v w u t h k = record {
  near = λ e. (let a = h.near e in let b = k.near refl in omega (arith, a, b));
  spent = λ p. h.spent p;
}
clocked_more last (Err fault.Memory) v w u t h k = record {
  near = λ e. (let a = h.near e in let b = k.near refl in omega (arith, a, b));
  spent = λ p. h.spent p;
}
clocked_more last (Err (fault.Busy conflict)) v w u t h k = record {
  near = λ e. (let a = h.near e in let b = k.near refl in omega (arith, a, b));
  spent = λ p. h.spent p;
}
clocked_more last (Err (fault.Spent version)) v w u t h k = record {
  near = λ e. absurd (omega (arith, e));
  spent = λ p. spent_on last v.floor w.floor t.answered t.spent h.near h.spent (let l = k.spent (omega arith) in
      omega (arith, l));
}

none_spent : (last floor answered spent n m : ℕ) → (0 < spent → last ≤ floor + answered) → answered + spent ≤ n →
    floor ≤ m → m + n ≤ last → spent ≡ 0
none_spent last floor answered zero n m h few low room = refl
none_spent last floor answered (suc k) n m h few low room = absurd (let p = h (omega arith) in
    omega (arith, p, few, low, room))

-- a clock with a version for each task
pub clocked_in_time : (last : ℕ) (v v' : Client) (t : Outcomes) (n m : ℕ) → Clocked last v v' t → total t ≡ n →
    v.floor ≤ m → m + n ≤ last → t.spent ≡ 0
clocked_in_time last v v' t n m c all low room = none_spent last v.floor t.answered t.spent n m c.spent
    (omega (arith, all)) low room
