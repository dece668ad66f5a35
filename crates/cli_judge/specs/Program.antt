-- The contract of the judge on a command line: status, input and output.
use Rattle.std.specs.Prelude.{◌≡◌, ℕ, ◌⊎◌, Option, List, [], ◌++◌, codes}
use Rattle.clap.specs.Words.{IsAmong, Text, fault_of}
use Rattle.clap.specs.declared.error.kind.ErrorKind.{ErrorKind}
use Rattle.clap.specs.declared.error.kind.ErrorKind.TheVariants as error
use Rattle.vac_lines.specs.Script.{as_line}
use Rattle.cli_common.specs.Showing.{ShowsError}
use Rattle.judge_options.specs.declared.asked.Request.{Request}
use Rattle.judge_options.specs.declared.asked.Request.TheVariants.{History, Order, UnknownLevel}
use Rattle.judge_options.specs.declared.asked.Request.TheVariants.{Attempts, Part, Keys, Queue}
use Rattle.judge_options.specs.CommandLine.{judge, AsksFor}
use Rattle.cli_judge.specs.declared.status.TheConstants.{FAULT}
use Rattle.cli_judge.specs.Ordering.{Orders}
use Rattle.cli_judge.specs.Asking.{Refuses, JudgesAsked, JudgesOpacity}
use Rattle.cli_judge.specs.Keys.{JudgesKeysAsked}
use Rattle.cli_judge.specs.Objects.{JudgesQueue, settings_of}
use Rattle.cli_judge.specs.Parting.{WritesPartOf}
use Rattle.cli_judge.specs.Reporting.{Reports}

-- the program does what the command line asks for; `files` gives the bytes of each file by its
-- name. What the commands write to standard error is said by `Reports`
abbrev pub Fulfils : (Text → Option (List ℕ)) → Request → ℕ → Option (List ℕ) → Option (List ℕ)
    → Option (List ℕ) → Option (List ℕ) → Type 0
Fulfils files (History how) status unread left held holds =
    JudgesAsked files how status unread left held holds
Fulfils files (Order blocks search) status unread left held holds =
    Orders search.level blocks search.steps status unread left held holds
Fulfils files UnknownLevel status unread left held holds = Refuses status unread left held holds
Fulfils files (Attempts how) status unread left held holds =
    JudgesOpacity how.place how.words status unread left held holds
Fulfils files (Part words) status unread left held holds =
    WritesPartOf words status unread left held holds
Fulfils files (Keys how) status unread left held holds =
    JudgesKeysAsked files how status unread left held holds
Fulfils files (Queue search) status unread left held holds =
    JudgesQueue (settings_of search) status unread left held holds

-- the text of `--version`: the name and version of the program, and the toolchain that proved and
-- built it
-- Not said: that the toolchain of the second line is the one that built the program.
abbrev pub version_text : List ℕ
version_text = as_line (codes "judge 0.1.0")
    ++ as_line (codes "rattle-kit-13f logic dac8208d650f15bf")

-- clap accepts the words, and the program did what they ask for, with its report on standard error
pub record Obeyed (files : Text → Option (List ℕ)) (words : List Text) (status : ℕ)
    (unread left held holds told tells : Option (List ℕ)) : Type 0 where
  pub taken : fault_of judge words ≡ []
  pub asked : Request
  pub asks : AsksFor words asked
  pub done : Fulfils files asked status unread left held holds
  pub reported : Reports asked status told tells

-- memory was refused, or clap does not accept the words: the explanation was shown, and no input
-- was read
-- Not said: which of two kinds of error is shown if clap gives two, as for a stray word after
-- `help`.
pub record Explained (words : List Text) (status : ℕ) (unread left held holds : Option (List ℕ)) :
    Type 0 where
  pub kind : ErrorKind
  pub why : (kind ≡ error.OutOfMemory) ⊎ IsAmong kind (fault_of judge words)
  pub unused : left ≡ unread
  pub shown : ShowsError version_text FAULT kind status held holds

-- the program does what the words of its command line ask for, or explains why not; `files` gives
-- the bytes of each file by its name
abbrev pub Serves : (Text → Option (List ℕ)) → List Text → ℕ → Option (List ℕ) → Option (List ℕ)
    → Option (List ℕ) → Option (List ℕ) → Option (List ℕ) → Option (List ℕ) → Type 0
Serves files words status unread left held holds told tells =
    Obeyed files words status unread left held holds told tells
    ⊎ Explained words status unread left held holds
