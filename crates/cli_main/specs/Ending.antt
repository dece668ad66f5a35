-- The last line and the status of the program after a fault.
use Rattle.std.specs.Prelude.{◌≡◌, ◌⊎◌, ℕ, Bool, true, false, Option, Result, Ok, Err, List, codes}
use Rattle.vac_lines.specs.Script.{as_line}
use Rattle.vac_lines.specs.Writing.{AppendsPrefix}
use Rattle.vac_lines.specs.declared.stream_fault.StreamFault.{StreamFault}
use Rattle.vac_lines.specs.declared.stream_fault.StreamFault.TheVariants as stream
use Rattle.load_run.specs.declared.load.LoadFault.{LoadFault}
use Rattle.load_run.specs.declared.load.LoadFault.TheVariants as load
use Rattle.cli_common.specs.Ending.{EndsBy, fault_line}
use Rattle.cli_main.specs.declared.status.TheConstants.{FAULT}

-- the last line of a load if an attempt is too long to be written
abbrev pub long_attempt_line : List ℕ
long_attempt_line = as_line (codes "fault long-attempt")

-- the last line of a load after a fault
abbrev pub load_fault_line : LoadFault → List ℕ
load_fault_line load.Arguments = as_line (codes "fault arguments")
load_fault_line load.Memory = as_line (codes "fault memory")
load_fault_line load.Spawn = as_line (codes "fault spawn")
load_fault_line (load.Opening fault) = as_line (codes "fault opening")

-- the status is 0 and the work was done, or the status is 1 and the work was stopped
abbrev pub EndsWithStatus : ℕ → Type 0 → Type 0 → Type 0
EndsWithStatus status done stopped = EndsBy FAULT status done stopped

-- the end of the program after its work: the status is 0 if the work was done; after a fault the
-- status is 1, and a prefix of the line that names the fault was written
abbrev pub EndsDone : {T : Type 0} → Result T StreamFault → ℕ → Option (List ℕ) → Option (List ℕ)
    → Type 0
EndsDone (Ok t) status held holds = (status ≡ 0) × (holds ≡ held)
EndsDone (Err fault) status held holds =
    (status ≡ 1) × AppendsPrefix held holds (fault_line fault)

-- the end of the program after an audit: the status is 0 if no flaw was found, and 1 otherwise;
-- after a fault the status is 1, and a prefix of the line that names the fault was written
abbrev pub EndsChecked : Result Bool StreamFault → ℕ → Option (List ℕ) → Option (List ℕ) → Type 0
EndsChecked (Ok true) status held holds = (status ≡ 0) × (holds ≡ held)
EndsChecked (Ok false) status held holds = (status ≡ 1) × (holds ≡ held)
EndsChecked (Err fault) status held holds =
    (status ≡ 1) × AppendsPrefix held holds (fault_line fault)

-- the fault is one that can stop a command that only writes
abbrev pub CanStopWriting : StreamFault → Type 0
CanStopWriting fault = (fault ≡ stream.Memory) ⊎ (fault ≡ stream.Write)

-- the output that was written before a fault is followed by a prefix of the line that names a
-- fault
abbrev pub NamedAfter : (Option (List ℕ) → Type 0) → Option (List ℕ) → Type 0
NamedAfter before holds = (held : Option (List ℕ)) × before held
    × ((fault : StreamFault) × AppendsPrefix held holds (fault_line fault))

-- as `NamedAfter`, for a command that reads nothing: the named fault is one that can stop such a
-- command
abbrev pub NamedAfterWriting : (Option (List ℕ) → Type 0) → Option (List ℕ) → Type 0
NamedAfterWriting before holds = (held : Option (List ℕ)) × before held
    × ((fault : StreamFault) × CanStopWriting fault
    × AppendsPrefix held holds (fault_line fault))
