-- The last line of a program after a fault, and its status.
use Rattle.std.specs.Prelude.{◌≡◌, ◌⊎◌, ℕ, List, [], codes}
use Rattle.vac_lines.specs.Script.{as_line}
use Rattle.vac_lines.specs.declared.stream_fault.StreamFault.{StreamFault}
use Rattle.vac_lines.specs.declared.stream_fault.StreamFault.TheVariants as stream

-- the last line after a fault; there is none if the output failed
abbrev pub fault_line : StreamFault → List ℕ
fault_line stream.Read = as_line (codes "fault read")
fault_line stream.Write = []
fault_line stream.Memory = as_line (codes "fault memory")
fault_line stream.Bound = as_line (codes "fault bound")

-- the status is 0 and the work was done, or the status is that of a fault and the work was stopped
-- Not said: that the line of a fault is written, or written completely; that the line names the
-- fault that was met; that the output is flushed. Tests use streams that fail.
abbrev pub EndsBy : (fault status : ℕ) → Type 0 → Type 0 → Type 0
EndsBy fault status done stopped = ((status ≡ 0) × done) ⊎ ((status ≡ fault) × stopped)
