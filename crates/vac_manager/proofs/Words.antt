-- Plain memory of words that represent a state, and its report.
use Rattle.std.proofs.Common.{◌≡◌, ℕ, List, Option, Some, None, length, refl, sym, subst, arith}
use Rattle.std.specs.FinMap.{get-empty}
use Rattle.std.specs.Ordering.{nat_cmp}
use Rattle.tx_memory.specs.View.{Sees}
use Rattle.tx_memory.specs.Plain.{flat_view}
use Rattle.vac_model.specs.declared.replies.Report.{Report}
use Rattle.vac_model.specs.State.{State, report}
use Rattle.vac_records.specs.InMemory.{HoldsState}
use Rattle.vac_records.proofs.PlainMemory.{flat_mem}
use Rattle.vac_tasks.specs.Reported.{Reported}
use Rattle.vac_manager.specs.Law.{Shows, IsFitting}

none_some : (o : Option ℕ) (v : ℕ) → o ≡ None → o ≡ Some v → ⊥
none_some o v e f = cc

-- words that represent a state, as plain memory
pub fitting_holds : (words xs : List ℕ) → xs ≡ words → IsFitting words → HoldsState (flat_view xs)
fitting_holds words xs same fitting =
    let f : IsFitting xs = subst (λ (l : List ℕ). IsFitting l) (sym same) fitting in
    record {
      inside = omega (arith, f.shown.represents.size);
      small = omega (arith, f.shown.represents.size, f.shown.small.small);
      under = λ image i. (f.value, rw (flat_mem xs image i.sees.fits, i.sees.fits) f.shown);
    }

-- the report over them is that of their state
pub reports : (words xs xs' : List ℕ) (r : Report) → xs ≡ words → Reported (flat_view xs) (flat_view xs') r →
    (s : State) → Shows words s → report s ≡ r
reports words xs xs' r same h s shown =
    let long : length xs ≡ length xs' = sym h.reads.kept.size in
    let i : Sees (flat_view xs') xs = record {
      fits = long;
      agrees = λ a v e. absurd (none_some _ v
          (get-empty nat_cmp a) e);
    } in
    h.is xs s i (rw (flat_mem xs xs refl, same) shown)
