-- Texts that a program shows instead of its work: help, version, or the refusal of the words.
use Rattle.std.specs.Prelude.{◌≡◌, ◌⊎◌, ℕ, Option, List}
use Rattle.std.specs.Io.KnownBytes.{Appends}
use Rattle.clap.specs.declared.error.kind.ErrorKind.{ErrorKind}
use Rattle.clap.specs.declared.error.kind.ErrorKind.TheVariants as error
use Rattle.vac_lines.specs.declared.stream_fault.StreamFault.TheVariants.{Memory}
use Rattle.vac_lines.specs.Writing.{AppendsPrefix}
use Rattle.cli_common.specs.Ending.{EndsBy, fault_line}

-- the output for an error of this kind of a program with this text of its version, whose status of
-- a fault is `fault`: the fault if memory was refused, help and version on the output, and nothing
-- on the output if the command line is refused
-- Not said: the text of the help, or that it was written completely if the status is 0; the text
-- on the error stream.
abbrev pub ShowsError : List ℕ → ℕ → ErrorKind → ℕ → Option (List ℕ) → Option (List ℕ) → Type 0
ShowsError version fault error.OutOfMemory status held holds =
    (status ≡ fault) × AppendsPrefix held holds (fault_line Memory)
ShowsError version fault error.DisplayHelp status held holds =
    ((status ≡ 0) ⊎ (status ≡ fault)) × ((text : List ℕ) × Appends held holds text)
ShowsError version fault error.DisplayVersion status held holds =
    EndsBy fault status (Appends held holds version) (AppendsPrefix held holds version)
ShowsError version fault kind status held holds = (status ≡ 2) × (holds ≡ held)
