-- A write log by its short log and its long log.
use Rattle.std.proofs.Common.{◌≡◌, ◌↔◌, inl, inr, ℕ, ◌<◌, Bool, true, false, not, nat_eq, Some, List, [], ◌∷◌, ◌++◌}
use Rattle.std.proofs.Common.{refl, sym, ap, ◌∙◌, arith}
use Rattle.std.specs.FinMap.{get}
use Rattle.stm_logs.specs.declared.short.ShortLog.{ShortLog}
use Rattle.stm_logs.specs.Log.{LogValue, empty_log}
use Rattle.stm_logs.specs.Short.{short_log, written, IsShort, Has, HasNone}
use Rattle.stm_logs.proofs.NodeLemmas.{same_or}
use Rattle.stm_logs.proofs.TableLemmas.{both_bool, true_false}
use Rattle.stm_logs.proofs.LogLemmas.{eq_zero, not_zero}
use Rattle.stm_logs.proofs.ShortLemmas.{short_empty, lock_there, lock_missing}

pub long_value : (s : ShortLog) (l w : LogValue) (b : Bool) → b ≡ true → written s l b ≡ w → l ≡ w
long_value s l w b t is = sym (ap (written s l) t) ∙ is

pub short_value : (s : ShortLog) (l w : LogValue) (b : Bool) → b ≡ false → written s l b ≡ w → short_log s ≡ w
short_value s l w b f is = sym (ap (written s l) f) ∙ is

no_more : {X : Type 0} (xs : List X) → xs ++ [] ≡ xs
no_more [] = refl
no_more (x ∷ xs) = ap (λ ys. x ∷ ys) (no_more xs)

-- what the short log has, and then what the long log has, is what the log has
pub both_parts : {X : Type 0} (f : LogValue → List X) (s : ShortLog) (l w : LogValue) (b : Bool) (ys xs : List X) →
    f empty_log ≡ [] → (b ≡ true → s.count ≡ 0) → (b ≡ false → l ≡ empty_log) → written s l b ≡ w →
    ys ≡ f (short_log s) → xs ≡ f l → ys ++ xs ≡ f w
both_parts f s l w b ys xs empty short_none long_none is in_short in_long = elim (both_bool b) [
  | inl t ↦ ap (λ zs. zs ++ xs) (in_short ∙ ap f (short_empty s (short_none t)) ∙ empty) ∙ in_long ∙
      ap f (long_value s l w b t is)
  | inr e ↦ ap (λ zs. ys ++ zs) (in_long ∙ ap f (long_none e) ∙ empty) ∙ no_more ys ∙ in_short ∙
      ap f (short_value s l w b e is)
]

-- a position tells whether the short log has a word of the lock
pub has_lock_short : (s : ShortLog) (l e : ℕ) → IsShort s → (0 < e → Has s s.locks l e) →
    (e ≡ 0 → HasNone s s.locks l) → (not (nat_eq e 0) ≡ true) ↔ ((a : ℕ) × (get (short_log s).locks a ≡ Some l))
has_lock_short s l e short there none = elim (same_or e 0) [
  | inl is ↦ (
    λ t. absurd (true_false (not (nat_eq e 0)) t (ap not (eq_zero e is))),
    λ w. absurd (lock_missing s l w.0 (none is) w.1),
  )
  | inr ne ↦ (
    λ t. lock_there s l e short (omega arith) (there (omega arith)),
    λ w. ap not (not_zero e (omega arith)),
  )
]
