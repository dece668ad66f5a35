-- The subcommands as clap builds them, and the one that the words enter.
use Rattle.std.proofs.Common.{◌≡◌, ℕ, List, []}
use Rattle.std.specs.List.{slice_index_or}
use Rattle.clap.specs.Words.{fault_of}
use Rattle.clap.specs.Simple.{Shape, built, new_shape}
use Rattle.clap.specs.Walk.{Row, Text}
use Rattle.cli_options.specs.CommandLine.{vacation, Names}
use Rattle.cli_common.proofs.Given.{IsEntered}
use Rattle.cli_common.proofs.Shapes as shapes

unfoldable pub shape_at : ℕ → Shape
shape_at k = slice_index_or (built vacation).subs k (new_shape [])

-- each subcommand of this name is this one
abbrev pub IsAlone : Text → Shape → Type 0
IsAlone name target = shapes.IsAlone vacation name target

-- the words enter the subcommand that they name
pub enters : (name : Text) (target : Shape) (words : List Text) (rows : List Row) → IsAlone name target →
    fault_of vacation words ≡ [] → Names words name rows → IsEntered target rows
enters name target words rows alone fault names = shapes.enters vacation name target words rows alone fault names
