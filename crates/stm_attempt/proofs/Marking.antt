-- The marks of the addresses that an attempt has written.
use Rattle.std.proofs.Common.{◌≡◌, ◌≢◌, ◌||◌, ℕ, ◌%◌, Bool, true, false, eqb, eq-eqb, Option, None, Some}
use Rattle.std.proofs.Common.{refl, sym, ap, ◌∙◌, inl, inr, Result, Ok, Err, MatchResult}
use Rattle.core.specs.Result.{IsErrAnd}
use Rattle.std.specs.FinMap.{get, insert, get-empty}
use Rattle.std.specs.Option.{is_some}
use Rattle.std.specs.Ordering.{nat_cmp}
use Rattle.tx_memory.specs.Seen.{same_or, get_other}
use Rattle.stm_logs.specs.Log.{LogValue, empty_log}
use Rattle.stm_logs.specs.Marks.{is_marked}
use Rattle.stm_logs.specs.declared.marks.Marks.{Marks}
use Rattle.stm_attempt.specs.Begun.{MarksCover, AreAllMarked}
use Rattle.stm_attempt.specs.declared.conflict.Refusal.{Refusal}
use Rattle.stm_attempt.specs.declared.conflict.Refusal.TheVariants.{Stopped}

some_there : {X : Type 0} (x : X) → Some x ≡ None → ⊥
some_there x e = cc

-- an attempt that has not marked some address has met no conflict
pub unmarked_runs : {X : Type 0} (stopped : Option X) (m : Marks) (a : ℕ) → (stopped ≢ None → AreAllMarked m) →
    is_marked m a ≡ false → stopped ≡ None
unmarked_runs None m a all away = refl
unmarked_runs (Some x) m a all away = let marked : is_marked m a ≡ true = all (some_there x) a in absurd (cc)

-- any marks cover an empty log
pub covers_nothing : (m : Marks) (w : LogValue) → w ≡ empty_log → MarksCover m w
covers_nothing m w is = λ a away. ap (λ (x : LogValue). get x.words a) is ∙ get-empty nat_cmp a

-- neither is true if one or the other is false
neither : (p q : Bool) → (p || q) ≡ false → (p ≡ false) × (q ≡ false)
neither true q e = absurd (cc)
neither false q e = (refl, e)

module _ (m m' : Marks) (n a : ℕ) (more : (b : ℕ) → is_marked m' b ≡ (eqb (b % n) (a % n) || is_marked m b)) where
  was_away : (b : ℕ) → is_marked m' b ≡ false → (eqb (b % n) (a % n) ≡ false) × (is_marked m b ≡ false)
  was_away b away = neither _ _ (sym (more b) ∙ away)

  -- marks that cover a log cover it with one word more at an address that is marked too
  pub covers_put : {E U : Type 0} (r : Result U E) (w w' : LogValue) (lock x : ℕ) → MarksCover m w →
      MatchResult r (λ _. w' ≡ record { words = insert w.words a x; locks = insert w.locks a lock }) (λ _. w' ≡ w) →
      MarksCover m' w'
  covers_put (Ok u) w w' lock x covers is = λ b away.
      ap (λ (o : LogValue). get o.words b) is ∙ elim (same_or b a) [
        | inl here ↦
            let one : eqb (b % n) (a % n) ≡ true = eq-eqb _ _ (ap (λ k. k % n) here) in
            let none = (was_away b away).0 in
            absurd (cc)
        | inr ne ↦ get_other w.words a x b ne ∙ covers b (was_away b away).1
      ]
  covers_put (Err e) w w' lock x covers is = λ b away.
      ap (λ (o : LogValue). get o.words b) is ∙ covers b (was_away b away).1

-- marks of all addresses cover any log
pub covers_all : (m : Marks) (w : LogValue) → AreAllMarked m → MarksCover m w
covers_all m w all = λ a away. absurd (let marked = all a in cc)

-- no conflict was met
pub none_of : {X : Type 0} (o : Option X) → is_some o ≡ false → o ≡ None
none_of None e = refl
none_of (Some x) e = absurd (cc)

-- a test of the kept conflict that came out true
pub some_of : {X : Type 0} (o : Option X) → is_some o ≡ true → o ≢ None
some_of None e = absurd (cc)
some_of (Some x) e = some_there x

-- what is handed on is the refusal of a stopped attempt
pub stopped_with : {X : Type 0} (r : Result X Refusal) (e : Refusal) → IsErrAnd r (λ f. f ≡ e) → e ≡ Stopped →
    r ≡ Err Stopped
stopped_with (Ok x) e is stop = absurd is
stopped_with (Err f) e is stop = ap Err (is ∙ stop)

-- no conflict was met, and none is kept
pub not_met : {X A : Type 0} (s : Option X) (x : X) → s ≡ None → s ≡ Some x → A
not_met None x none some = cc
not_met (Some y) x none some = cc
