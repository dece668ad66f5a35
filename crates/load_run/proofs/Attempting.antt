-- What calls took.
use Rattle.std.proofs.Common.{◌≡◌, ◌≢◌, ◌∙◌, ◌+◌, ◌*◌, ◌≤◌, ℕ, List, Result, Ok, Err, refl, sym, ap, subst, arith}
use Rattle.std.proofs.Math.Nat.{add-mul}
use Rattle.stm_attempt.specs.declared.conflict.Conflict.{Conflict}
use Rattle.vac_manager.specs.declared.fault.Fault.{Fault}
use Rattle.vac_manager.specs.declared.fault.Fault.TheVariants as fault
use Rattle.vac_manager.specs.declared.placed.PlacedReply.{PlacedReply}
use Rattle.vac_manager.specs.declared.placed.CallStatistics.{CallStatistics}
use Rattle.vac_manager.specs.Called.{Attempts}
use Rattle.vac_manager.specs.Placed.{closed_by, conflicts_of, statistics_of, locks_of, nothing_done, one_more}
use Rattle.vac_manager.proofs.Counting.{each_counted, each_located}
use Rattle.load_run.specs.declared.outcomes.Outcomes.{Outcomes}
use Rattle.load_run.specs.declared.statistics.AttemptStatistics.{AttemptStatistics}
use Rattle.load_run.specs.Looping.{nothing, counted, total, plus}
use Rattle.load_run.specs.Attempted.{AreStatistics, no_attempts, with_call, both_statistics}

-- a task that is not busy took one attempt more than there were conflicts
quiet : (tries : ℕ) (t : Outcomes) (x : CallStatistics) → t.busy ≡ 0 → t.answered + t.memory + t.spent ≡ 1 →
    x.attempts ≡ conflicts_of x → locks_of x + x.lost_tick ≡ conflicts_of x → x.attempts + 1 ≤ tries →
    AreStatistics tries t (with_call (one_more x) no_attempts)
quiet tries t x none one n l few =
    let all : total t * tries ≡ 1 * tries = ap (λ (k : ℕ). k * tries) (one_of t none one) in
    let busy : t.busy * tries ≡ 0 * tries = ap (λ (k : ℕ). k * tries) none in
    record {
      least = omega (arith, n, one);
      most = omega (arith, n, one);
      busy = omega (arith, busy);
      few = omega (arith, all, few);
      others = omega (arith, n, one, all, few);
      locks = omega (arith, l);
    }
  where
    one_of : (u : Outcomes) → u.busy ≡ 0 → u.answered + u.memory + u.spent ≡ 1 → total u ≡ 1
    one_of u none one = omega (arith, none, one)

-- one that is busy took as many as there were conflicts
busy_only : (tries : ℕ) (x : CallStatistics) → x.attempts ≡ conflicts_of x → locks_of x + x.lost_tick ≡ conflicts_of x →
    x.attempts ≡ tries → AreStatistics tries (record nothing { busy = 1 }) (with_call x no_attempts)
busy_only tries x n l all = record {
  least = omega (arith, n);
  most = omega (arith, n);
  busy = omega (arith, n, all);
  few = omega (arith, all);
  others = omega (arith, n, all);
  locks = omega (arith, l);
}

within : (before now tries k : ℕ) → now ≤ before + tries → before + k ≡ now → k ≤ tries
within before now tries k few all = omega (arith, few, all)

all_tries : (before now tries k : ℕ) → now ≡ before + tries → before + k ≡ now → k ≡ tries
all_tries before now tries k few all = omega (arith, few, all)

-- what a call took that was answered
pub took_answered : (tries before now : ℕ) (p : PlacedReply) (cs : List Conflict) (e : CallStatistics) →
    Attempts tries before now (Ok p.reply) → e ≡ closed_by (Ok p) (statistics_of cs) → before + e.attempts ≡ now →
    AreStatistics tries (counted {R = Unit {0}} (Ok tt) nothing) (with_call e no_attempts)
took_answered tries before now p cs e a same b =
    subst (λ (x : CallStatistics). AreStatistics tries (counted {R = Unit {0}} (Ok tt) nothing)
    (with_call x no_attempts)) (sym same)
    (quiet tries (counted {R = Unit {0}} (Ok tt) nothing) (statistics_of cs) refl refl (each_counted cs)
    (each_located cs)
    (within before now tries ((statistics_of cs).attempts + 1) a.1
    (sym (ap (λ (x : CallStatistics). before + x.attempts) same) ∙ b)))

-- what one took that was refused
refused : (tries before now : ℕ) (f : Fault) (cs : List Conflict) → f ≢ fault.Arguments →
    Attempts tries before now (Err f) → before + (closed_by {R = PlacedReply} (Err f) (statistics_of cs)).attempts
    ≡ now →
    AreStatistics tries (counted {R = Unit {0}} (Err f) nothing)
    (with_call (closed_by {R = PlacedReply} (Err f) (statistics_of cs)) no_attempts)
refused tries before now fault.Arguments cs known a b = absurd (known refl)
refused tries before now fault.Memory cs known a b =
    quiet tries (counted {R = Unit {0}} (Err fault.Memory) nothing) (statistics_of cs) refl refl (each_counted cs)
    (each_located cs) (within before now tries ((statistics_of cs).attempts + 1) a.1 b)
refused tries before now (fault.Busy conflict) cs known a b =
    busy_only tries (statistics_of cs) (each_counted cs) (each_located cs)
    (all_tries before now tries (statistics_of cs).attempts a b)
refused tries before now (fault.Spent version) cs known a b =
    quiet tries (counted {R = Unit {0}} (Err (fault.Spent version)) nothing) (statistics_of cs) refl refl
    (each_counted cs)
    (each_located cs) (within before now tries ((statistics_of cs).attempts + 1) a.1 b)

pub took_refused : (tries before now : ℕ) (f : Fault) (cs : List Conflict) (e : CallStatistics) → f ≢ fault.Arguments →
    Attempts tries before now (Err f) → e ≡ closed_by {R = PlacedReply} (Err f) (statistics_of cs) →
    before + e.attempts ≡ now →
    AreStatistics tries (counted {R = Unit {0}} (Err f) nothing) (with_call e no_attempts)
took_refused tries before now f cs e known a same b =
    subst (λ (x : CallStatistics). AreStatistics tries (counted {R = Unit {0}} (Err f) nothing)
    (with_call x no_attempts)) (sym same)
    (refused tries before now f cs known a (sym (ap (λ (x : CallStatistics). before + x.attempts) same) ∙ b))

-- want of memory before a call took nothing
pub took_none : (tries : ℕ) (e : CallStatistics) → 1 ≤ tries → e ≡ nothing_done →
    AreStatistics tries (counted {R = Unit {0}} (Err fault.Memory) nothing) (with_call e no_attempts)
took_none tries e some none =
    subst (λ (x : CallStatistics). AreStatistics tries (counted {R = Unit {0}} (Err fault.Memory) nothing)
    (with_call x no_attempts))
    (sym none)
    (record {
      least = omega arith;
      most = omega arith;
      busy = omega arith;
      few = omega arith;
      others = omega (arith, some);
      locks = omega arith;
    })

-- the tasks of two
pub effort_both : (n : ℕ) (t u : Outcomes) (d e : AttemptStatistics) → AreStatistics n t d → AreStatistics n u e →
    AreStatistics n (plus t u) (both_statistics d e)
effort_both n t u d e h k =
    let all : total (plus t u) ≡ total t + total u = omega arith in
    let p : total (plus t u) * n ≡ (total t + total u) * n = ap (λ (x : ℕ). x * n) all in
    let q = add-mul (total t) (total u) n in
    let b = add-mul t.busy u.busy n in
    record {
      least = omega (arith, h.least, k.least);
      most = omega (arith, h.most, k.most);
      busy = omega (arith, b, h.busy, k.busy);
      few = omega (arith, p, q, h.few, k.few);
      others =
          omega (arith, p, q, h.others, k.others);
      locks = omega (arith, h.locks, k.locks);
    }

none_more : (n : ℕ) → n ≡ n + 0
none_more n = omega arith

-- a tally with one task more is the tally and that of the one task
counted_plus : {R : Type 0} (end : Result R Fault) (t : Outcomes) → counted end t ≡ plus t (counted end nothing)
counted_plus (Ok reply) t = λ i. record {
  answered = t.answered + 1;
  busy = none_more t.busy i;
  memory = none_more t.memory i;
  spent = none_more t.spent i;
}
counted_plus (Err fault.Arguments) t = λ i. record {
  answered = none_more t.answered i;
  busy = none_more t.busy i;
  memory = t.memory + 1;
  spent = none_more t.spent i;
}
counted_plus (Err fault.Memory) t = λ i. record {
  answered = none_more t.answered i;
  busy = none_more t.busy i;
  memory = t.memory + 1;
  spent = none_more t.spent i;
}
counted_plus (Err (fault.Busy conflict)) t = λ i. record {
  answered = none_more t.answered i;
  busy = t.busy + 1;
  memory = none_more t.memory i;
  spent = none_more t.spent i;
}
counted_plus (Err (fault.Spent version)) t = λ i. record {
  answered = none_more t.answered i;
  busy = none_more t.busy i;
  memory = none_more t.memory i;
  spent = t.spent + 1;
}

none_first : (m n : ℕ) → m + n ≡ m + (0 + n)
none_first m n = omega arith

-- what one more call took is added to what the others took
call_both : (e : CallStatistics) (d : AttemptStatistics) → with_call e d ≡ both_statistics d (with_call e no_attempts)
call_both e d = λ i. record {
  attempts = none_first d.attempts e.attempts i;
  held = none_first d.held e.held i;
  newer = none_first d.newer e.newer i;
  moved = none_first d.moved e.moved i;
  lost_lock = none_first d.lost_lock e.lost_lock i;
  lost_tick = none_first d.lost_tick e.lost_tick i;
  roots = none_first d.roots e.roots i;
  heads = none_first d.heads e.heads i;
  nodes = none_first d.nodes e.nodes i;
  uses = none_first d.uses e.uses i;
  stocks = none_first d.stocks e.stocks i;
}

-- one task more
pub effort_counted : {R : Type 0} (n : ℕ) (end : Result R Fault) (t : Outcomes) (d : AttemptStatistics)
    (e : CallStatistics) →
    AreStatistics n t d → AreStatistics n (counted end nothing) (with_call e no_attempts) →
    AreStatistics n (counted end t) (with_call e d)
effort_counted n end t d e h k =
    subst (λ (u : Outcomes). AreStatistics n u (with_call e d)) (sym (counted_plus end t))
    (subst (λ (f : AttemptStatistics). AreStatistics n (plus t (counted end nothing)) f) (sym (call_both e d))
    (effort_both n t (counted end nothing) d (with_call e no_attempts) h k))
