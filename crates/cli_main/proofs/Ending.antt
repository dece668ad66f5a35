-- The last lines of the program.
use Rattle.std.proofs.Common.{ℕ, Bool, true, false, List, [], sym, subst, ◌⊎◌, inl, inr, Option}
use Rattle.std.specs.Prelude.{Result, Ok, Err, OnOk, OnErr, IfOk, IfErr}
use Rattle.std.specs.Io.KnownBytes.{Appends}
use Rattle.vac_lines.specs.Writing.{AppendsPrefix}
use Rattle.vac_lines.specs.declared.stream_fault.StreamFault.{StreamFault}
use Rattle.cli_common.specs.Ending.{fault_line}
use Rattle.cli_common.proofs.LastLines as last
use Rattle.cli_main.specs.Ending.{EndsWithStatus, EndsDone, EndsChecked, NamedAfter}

-- where nothing was written first
pub nothing_then : (held middle holds : Option (List ℕ)) (text : List ℕ) → Appends held middle [] →
    AppendsPrefix middle holds text → AppendsPrefix held holds text
nothing_then held middle holds text none more = last.nothing_then held middle holds text none more

-- work was done, or stopped by a fault, and then the program ended
pub done : {T : Type 0} (Done Stopped : Option (List ℕ) → Type 0) (r : Result T StreamFault) (status : ℕ)
    (middle holds : Option (List ℕ)) → OnOk r (Done middle) → OnErr r (Stopped middle)
    → EndsDone r status middle holds → EndsWithStatus status (Done holds) (NamedAfter Stopped holds)
done Done Stopped (Ok t) status middle holds ok err e = inl (e.0, subst Done (sym e.1) ok)
done Done Stopped (Err fault) status middle holds ok err e = inr (e.0, (middle, err, (fault, e.1)))

-- something was audited, or that was stopped by a fault, and then the program ended
pub checked : (Has : Bool → Option (List ℕ) → Type 0) (Stopped : StreamFault → Type 0) (Ended : Type 0)
    (r : Result Bool StreamFault) (status : ℕ) (middle holds : Option (List ℕ)) →
    ((fault : StreamFault) → Stopped fault → AppendsPrefix middle holds (fault_line fault) → Ended) →
    IfOk r (λ right. Has right middle) → IfErr r Stopped → EndsChecked r status middle holds →
    EndsWithStatus status (Has true holds) (Has false holds ⊎ Ended)
checked Has Stopped Ended (Ok true) status middle holds stop ok err e = inl (e.0, subst (Has true) (sym e.1) ok)
checked Has Stopped Ended (Ok false) status middle holds stop ok err e =
    inr (e.0, inl (subst (Has false) (sym e.1) ok))
checked Has Stopped Ended (Err fault) status middle holds stop ok err e = inr (e.0, inr (stop fault err e.1))

-- whatever the fault
pub of_any : {T E : Type 0} (P : Type 0) (r : Result T E) → OnErr r P → IfErr r (λ _. P)
of_any P (Ok t) h = tt
of_any P (Err e) h = h
