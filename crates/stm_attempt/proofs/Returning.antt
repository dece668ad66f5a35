-- Locks that are given back.
use Rattle.std.proofs.Common.{◌≡◌, ◌≢◌, inr, sym, ap, subst, ◌∙◌, ℕ, suc, ◌+◌, ◌-◌, List, [], ◌∷◌, ◌++◌, append_assoc}
use Rattle.std.proofs.Common.{length, take, arith, Some}
use Rattle.std.specs.FinMap.{get}
use Rattle.stm_core.specs.Client.{Client, Stamp, without, RecordLaw}
use Rattle.stm_core.specs.Event.{give_back, after, Bounds}
use Rattle.stm_logs.specs.Log.{LogValue, log_locks}
use Rattle.stm_logs.proofs.RisingLemmas.{Rising, In as Among}
use Rattle.stm_attempt.specs.Begun.{addresses}
use Rattle.stm_attempt.specs.CommitParts.{returned, IsReturning}
use Rattle.stm_logs.proofs.LockLemmas.{locks_rise, locks_in}
use Rattle.stm_attempt.proofs.Locks.{rising_behind, gives_first, among_middle}
use Rattle.stm_core.proofs.Conditions.{may_act_so}
use Rattle.stm_core.specs.Guards.{Holds, May}

module _ (lawful : RecordLaw) (t : Stamp) (lk : ℕ → ℕ) (b : Bounds) (w : LogValue) (v0 v : Client) (count left k : ℕ)
    (now rest : List ℕ) (returning : IsReturning v0 v count left now (log_locks w)) (next : now ≡ k ∷ rest)
    (some_left : left ≢ 0) where
  order : returning.gone ++ k ∷ rest ≡ log_locks w
  order = ap (λ (xs : List ℕ). returning.gone ++ xs) (sym next) ∙ returning.order

  rises : Rising (λ (x : ℕ). x) (k ∷ rest)
  rises = rising_behind returning.gone (k ∷ rest) (subst (λ (xs : List ℕ). Rising (λ (x : ℕ). x) xs) (sym order)
      (locks_rise w))

  first : Holds v.attempt.held k × (addresses (without v.attempt.held k) ≡ take (left - 1) rest)
  first = gives_first v.attempt.held k left rest some_left (returning.held ∙ ap (take left) next) rises

  pub return_logged : (a : ℕ) × (get w.locks a ≡ Some k)
  return_logged = locks_in w k (subst (λ (xs : List ℕ). Among k xs) order (among_middle returning.gone k rest))

  pub may_return : May lawful lk b (give_back k) v
  may_return = (returning.able.0, may_act_so lk lawful b v.attempt (give_back k) (returning.able.1, first.0))

  pub returned_one : (v' : Client) → v' ≡ after t lk (give_back k) 0 v →
      IsReturning v0 v' count (left - 1) rest (log_locks w)
  returned_one v' e = record {
    gone = returning.gone ++ k ∷ [];
    order = append_assoc returning.gone (k ∷ []) rest ∙ order;
    same = ap returned e ∙ returning.same;
    able = (ap (λ (x : Client). x.is_gathered) e ∙ returning.able.0, inr (ap (λ (x : Client). x.attempt.phase) e));
    held = ap (λ (x : Client). addresses x.attempt.held) e ∙ first.1;
    few = let l : length now ≡ suc (length rest) = ap length next in omega (arith, l, returning.few, some_left);
    gave_back = λ _. ap (λ (x : Client). x.attempt.gave_back) e;
    steps = let s : v'.attempt.steps ≡ v.attempt.steps + 1 = ap (λ (x : Client). x.attempt.steps) e in
        omega (arith, s, some_left, returning.steps);
  }
