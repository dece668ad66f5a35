-- The audit of words and the states that words may represent.
use Rattle.std.specs.Prelude.{◌≡◌, ◌⊎◌, ℕ, ◌≤◌, List, length, slice_index, Result, Ok, Err}
use Rattle.vac_model.specs.declared.replies.Report.{Report}
use Rattle.vac_model.specs.State.{State, report}
use Rattle.vac_records.specs.Represents.{IsState}
use Rattle.vac_audit.specs.declared.audit.AuditFault.{AuditFault}
use Rattle.vac_audit.specs.declared.audit.AuditFault.TheVariants.{Memory}

-- the words represent a balanced state with this report
pub record StateOf (words : List ℕ) (found : Report) : Type 0 where
  pub state : State
  pub represented : IsState (slice_index words) (length words) state
  pub report_is : report state ≡ found

-- if the words represent a balanced state of at least one block, the result is the report of that
-- state, unless memory was refused
abbrev pub Recognised : List ℕ → Result Report AuditFault → Type 0
Recognised words result = (s : State) → 1 ≤ s.capacity →
    IsState (slice_index words) (length words) s →
    (result ≡ Err Memory) ⊎ (result ≡ Ok (report s))
