-- The contract of the program on a command line: status, input and output.
use Rattle.std.specs.Prelude.{◌≡◌, ℕ, ◌⊎◌, Bool, true, false, Option, List, []}
use Rattle.std.specs.Prelude.{◌++◌, codes}
use Rattle.clap.specs.Words.{IsAmong, Text, fault_of}
use Rattle.clap.specs.declared.error.kind.ErrorKind.{ErrorKind}
use Rattle.clap.specs.declared.error.kind.ErrorKind.TheVariants as error
use Rattle.load_tasks.specs.declared.settings.Settings.{Settings}
use Rattle.load_tasks.specs.Setting.{is_settings}
use Rattle.load_run.specs.declared.load.LoadFault.TheVariants.{Arguments}
use Rattle.cli_options.specs.declared.asked.LoadOutput.{LoadOutput}
use Rattle.cli_options.specs.declared.asked.Request.{Request}
use Rattle.cli_options.specs.declared.asked.Request.TheVariants.{Run, Dump, Check, Load, Tasks}
use Rattle.vac_lines.specs.Script.{as_line}
use Rattle.vac_lines.specs.Writing.{AppendsPrefix}
use Rattle.cli_script.specs.Script.{WroteAll, WrotePrefix}
use Rattle.cli_script.specs.Dump.{Dumped, DumpStopped}
use Rattle.cli_script.specs.Check.{Checked, CheckStopped}
use Rattle.load_tasks.specs.Worklist.{WroteTasks, WroteTasksPrefix}
use Rattle.cli_common.specs.Showing.{ShowsError}
use Rattle.cli_main.specs.declared.status.TheConstants.{FAULT}
use Rattle.cli_main.specs.Load.{EndsLoad, WroteLoad, WroteLoadInPart, StoppedKept}
use Rattle.cli_main.specs.Load.{WroteCalls, WroteCallsInPart, WroteLoadAttempts, StoppedAttempts}
use Rattle.cli_main.specs.Ending.{EndsWithStatus, NamedAfter, NamedAfterWriting, load_fault_line}
use Rattle.cli_options.specs.CommandLine.{vacation, AsksFor}

-- the program runs a load, and writes its history, its attempts or its two lines; if both history
-- and attempts are asked for, the command line is refused, and nothing is written to the output
abbrev pub LoadsBy : (history attempts : Bool) → LoadOutput → ℕ → Settings → Option (List ℕ)
    → Option (List ℕ) → Option (List ℕ) → Option (List ℕ) → Type 0
LoadsBy true true how status s held holds told tells = (status ≡ 2) × (holds ≡ held)
LoadsBy true false how status s held holds told tells =
    EndsLoad WroteCalls (StoppedKept WroteCallsInPart) how status s held holds told tells
LoadsBy false true how status s held holds told tells =
    EndsLoad WroteLoadAttempts StoppedAttempts how status s held holds told tells
LoadsBy false false how status s held holds told tells =
    EndsLoad WroteLoad WroteLoadInPart how status s held holds told tells

-- the program runs a load, and writes what the command line asks for
abbrev pub LoadsAs : LoadOutput → ℕ → Settings → Option (List ℕ) → Option (List ℕ)
    → Option (List ℕ) → Option (List ℕ) → Type 0
LoadsAs how status s held holds told tells =
    LoadsBy how.history how.attempts how status s held holds told tells

-- the program writes the tasks of a load if its settings fit each other, and refuses the command
-- line otherwise
-- Not said: which fault stands for which cause.
abbrev pub ListsTasks : ℕ → Settings → Option (List ℕ) → Option (List ℕ) → Type 0
ListsTasks status s held holds =
    ((is_settings s ≡ true) × EndsWithStatus status (WroteTasks s held holds)
    (NamedAfterWriting (WroteTasksPrefix s held) holds))
    ⊎ ((is_settings s ≡ false) × (status ≡ 2)
    × AppendsPrefix held holds (load_fault_line Arguments))

-- the program runs a script on a system with this number of blocks, and writes its output
abbrev pub RunsScript : ℕ → ℕ → Option (List ℕ) → Option (List ℕ) → Option (List ℕ)
    → Option (List ℕ) → Type 0
RunsScript blocks status unread left held holds =
    EndsWithStatus status (WroteAll blocks unread left held holds)
    (NamedAfter (WrotePrefix blocks unread left held) holds)

-- the program writes the memory after a script
abbrev pub Dumps : ℕ → ℕ → Option (List ℕ) → Option (List ℕ) → Option (List ℕ)
    → Option (List ℕ) → Type 0
Dumps blocks status unread left held holds =
    EndsWithStatus status (Dumped blocks unread left held holds)
    (NamedAfter (DumpStopped blocks unread left held) holds)

-- the program audits the words of a memory; the status is 0 if they represent a balanced state
abbrev pub Checks : ℕ → Option (List ℕ) → Option (List ℕ) → Option (List ℕ)
    → Option (List ℕ) → Type 0
Checks status unread left held holds =
    EndsWithStatus status (Checked true unread left held holds)
    (Checked false unread left held holds
    ⊎ NamedAfter (CheckStopped unread left held) holds)

-- the program does what the command line asks for. A load writes to the output and to standard
-- error; the other commands write nothing to standard error
-- Not said: what `tasks` writes to standard error about settings that do not fit each other.
abbrev pub Fulfils : Request → ℕ → Option (List ℕ) → Option (List ℕ)
    → Option (List ℕ) → Option (List ℕ) → Option (List ℕ) → Option (List ℕ) → Type 0
Fulfils (Run blocks) status unread left held holds told tells =
    RunsScript blocks status unread left held holds × (tells ≡ told)
Fulfils (Dump blocks) status unread left held holds told tells =
    Dumps blocks status unread left held holds × (tells ≡ told)
Fulfils Check status unread left held holds told tells =
    Checks status unread left held holds × (tells ≡ told)
Fulfils (Load settings how) status unread left held holds told tells =
    (left ≡ unread) × LoadsAs how status settings held holds told tells
Fulfils (Tasks settings) status unread left held holds told tells =
    (left ≡ unread) × ListsTasks status settings held holds

-- the text of `--version`: the name and version of the program, and the toolchain that proved and
-- built it
-- Not said: that the toolchain of the second line is the one that built the program.
abbrev pub version_text : List ℕ
version_text = as_line (codes "vacation 0.1.0")
    ++ as_line (codes "rattle-kit-13f logic dac8208d650f15bf")

-- clap accepts the words, and the program did what they ask for
pub record Obeyed (words : List Text) (status : ℕ)
    (unread left held holds told tells : Option (List ℕ)) : Type 0 where
  pub taken : fault_of vacation words ≡ []
  pub asked : Request
  pub asks : AsksFor words asked
  pub done : Fulfils asked status unread left held holds told tells

-- memory was refused, or clap does not accept the words: the explanation was shown, and no input
-- was read
-- Not said: which of two kinds of error is shown if clap gives two, as for a stray word after
-- `help`.
pub record Explained (words : List Text) (status : ℕ) (unread left held holds : Option (List ℕ)) :
    Type 0 where
  pub kind : ErrorKind
  pub why : (kind ≡ error.OutOfMemory) ⊎ IsAmong kind (fault_of vacation words)
  pub unused : left ≡ unread
  pub shown : ShowsError version_text FAULT kind status held holds

-- the program does what the words of its command line ask for, or explains why not
abbrev pub Serves : List Text → ℕ → Option (List ℕ) → Option (List ℕ)
    → Option (List ℕ) → Option (List ℕ) → Option (List ℕ) → Option (List ℕ) → Type 0
Serves words status unread left held holds told tells =
    Obeyed words status unread left held holds told tells
    ⊎ Explained words status unread left held holds
