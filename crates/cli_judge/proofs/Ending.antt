-- The end of the judge.
use Rattle.std.proofs.Common.{ℕ, Bool, true, false, List, Option, sym, subst, inl, inr}
use Rattle.std.specs.Prelude.{Result, Ok, Err, IfOk, IfErr}
use Rattle.vac_lines.specs.Writing.{AppendsPrefix}
use Rattle.vac_lines.specs.declared.stream_fault.StreamFault.{StreamFault}
use Rattle.cli_common.specs.Ending.{fault_line}
use Rattle.cli_judge.specs.Ending.{EndsWithVerdict, EndsJudged}

-- something was judged, or that was stopped by a fault, and then the program ended
pub judged : (Has : Bool → Option (List ℕ) → Type 0) (Stopped : StreamFault → Type 0) (Ended : Type 0)
    (r : Result Bool StreamFault) (status : ℕ) (middle holds : Option (List ℕ)) →
    ((fault : StreamFault) → Stopped fault → AppendsPrefix middle holds (fault_line fault) → Ended) →
    IfOk r (λ right. Has right middle) → IfErr r Stopped → EndsJudged r status middle holds →
    EndsWithVerdict status (Has true holds) (Has false holds) Ended
judged Has Stopped Ended (Ok true) status middle holds stop ok err e = inl (e.0, subst (Has true) (sym e.1) ok)
judged Has Stopped Ended (Ok false) status middle holds stop ok err e =
    inr (inl (e.0, subst (Has false) (sym e.1) ok))
judged Has Stopped Ended (Err fault) status middle holds stop ok err e = inr (inr (e.0, stop fault err e.1))
