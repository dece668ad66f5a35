-- Logs whose locks are remainders.
use Rattle.std.proofs.Common.{◌≡◌, inl, inr, ℕ, ◌%◌, Result, Ok, Err, MatchResult, Some, sym, ap, ◌∙◌, subst}
use Rattle.std.specs.FinMap.{get, get-empty}
use Rattle.std.specs.Ordering.{nat_cmp}
use Rattle.stm_logs.specs.Log.{LogValue, empty_log, IsStriped}
use Rattle.stm_logs.specs.Held.{with_word}
use Rattle.stm_logs.proofs.NodeLemmas.{same_or}
use Rattle.stm_logs.proofs.TableLemmas.{get_here, get_other, some_none}

pub striped_empty : (stripes : ℕ) → IsStriped empty_log stripes
striped_empty stripes a lock is = absurd (some_none lock (sym is ∙ get-empty nat_cmp a))

some_is : (a b : ℕ) → Some a ≡ Some b → a ≡ b
some_is a b e = cc

striped_word : (w : LogValue) (stripes address value : ℕ) → IsStriped w stripes →
    IsStriped (with_word w address (address % stripes) value) stripes
striped_word w stripes address value h a lock is = elim (same_or a address) [
  | inl here ↦ sym (some_is _ _ (sym (ap (get (with_word w address (address % stripes) value).locks) here ∙
      get_here w.locks address (address % stripes)) ∙ is)) ∙ ap (λ k. k % stripes) (sym here)
  | inr other ↦ h a lock (sym (get_other w.locks address (address % stripes) a other) ∙ is)
]

pub striped_put : {U E : Type 0} (r : Result U E) (old new : LogValue) (stripes address value : ℕ) →
    MatchResult r (λ _. new ≡ with_word old address (address % stripes) value) (λ _. new ≡ old) →
    IsStriped old stripes → IsStriped new stripes
striped_put (Ok u) old new stripes address value is h = subst (λ w. IsStriped w stripes) (sym is)
    (striped_word old stripes address value h)
striped_put (Err e) old new stripes address value is h = subst (λ w. IsStriped w stripes) (sym is) h
