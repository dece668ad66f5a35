-- The options and subcommands that command lines are made of, in clap's terms.
use Rattle.std.specs.Prelude.{◌≡◌, ℕ, pos, Bool, true, false, Some, codes, List, [], ◌∷◌}
use Rattle.std.specs.Prelude.{Result, IfOk, IsOkAnd}
use Rattle.std.specs.declared.alloc.AllocError.{AllocError}
use Rattle.clap.specs.Simple.{new_shape}
use Rattle.clap.specs.Words.{App, Shape, Rule, Text, app_of, new_rule, rule_of, with_rule}
use Rattle.clap.specs.Words.{with_subcommand}
use Rattle.clap.specs.declared.builder.action.ArgAction.TheVariants.{SetTrue}
use Rattle.clap.specs.declared.builder.arg.Arg.{Arg}
use Rattle.clap.specs.declared.builder.command.Command.{Command}
use Rattle.clap.specs.declared.builder.command.Command.TheViews.{out-Command}
use Rattle.clap.specs.declared.builder.value_parser.ValueParser.{ValueParser}
use Rattle.clap.specs.declared.builder.value_parser.ValueParser.TheVariants as parser
use Rattle.vac_model.specs.declared.limits.TheConstants.{MOST_BLOCKS}
use Rattle.cli_common.specs.declared.values.TheConstants.{MOST_NUMBER}

-- ---- options

-- an option `--name N` with a value
abbrev pub valued_option : Text → Rule
valued_option name = record (new_rule name) { long = Some name; value_names = 1 }

-- the parser of a whole number in a range
abbrev pub number_parser : ℕ → ℕ → ValueParser
number_parser least most = parser.Signed (pos least) (pos most)

-- an option `--name N` for a whole number in a range, with its default
abbrev pub number_option : Text → ℕ → ℕ → Text → Rule
number_option name least most default = record (valued_option name) {
  parser = Some (number_parser least most);
  defaults = default ∷ [];
}

-- an option `--name N` for any number of 64 bits, with its default
abbrev pub any_number_option : Text → Text → Rule
any_number_option name default = record (valued_option name) {
  parser = Some (parser.Unsigned 0 MOST_NUMBER);
  defaults = default ∷ [];
}

-- an option with a short name as well, a character given by its code
abbrev pub short_option : ℕ → Rule → Rule
short_option letter option = record option { short = Some letter }

-- `--blocks`: room for items, customers and bookings
abbrev pub blocks_option : Rule
blocks_option = number_option (codes "blocks") 1 MOST_BLOCKS (codes "1024")

-- a flag `--name`
abbrev pub flag : Text → Rule
flag name = record (new_rule name) { long = Some name; action = Some SetTrue }

-- ---- commands

-- a command with this name and these options
abbrev pub with_options : Text → List Rule → Shape
with_options name options = record (new_shape name) { rules = options }

-- a command with further subcommands
abbrev pub with_commands : App → List Shape → App
with_commands a [] = a
with_commands a (s ∷ subs) = with_commands (with_subcommand a s) subs

-- a command with further options
abbrev pub with_rules : App → List Rule → App
with_rules a [] = a
with_rules a (option ∷ options) = with_rules (with_rule a option) options

-- ---- building them

-- the argument is this option, and belongs to its own command alone
pub record IsOption (a : Arg) (option : Rule) : Type 0 where
  pub rule : rule_of a ≡ option
  pub own : a.global ≡ false

-- the command is this one, and has no subcommand
pub record IsCommand (c : Command) (s : Shape) : Type 0 where
  pub app : app_of c ≡ record { top = s; subs = [] }
  pub own : (out-Command c).has_globals ≡ false

-- the second command is the first with these options added
pub record AddsOptions (before : Command) (options : List Rule) (after : Command) : Type 0 where
  pub app : app_of after ≡ with_rules (app_of before) options
  pub own : (out-Command after).has_globals ≡ (out-Command before).has_globals

-- the result is the given command with these options added, unless memory was refused
abbrev pub GetsOptions : Result Command AllocError → List Rule → Result Command AllocError
    → Type 0
GetsOptions given options result =
    IfOk result (λ after. IsOkAnd given (λ before. AddsOptions before options after))

-- the second command is the first with these subcommands added
pub record AddsCommands (before : Command) (subs : List Shape) (after : Command) : Type 0 where
  pub app : app_of after ≡ with_commands (app_of before) subs

-- the result is the given command with these subcommands added, unless memory was refused
abbrev pub GetsCommands : Result Command AllocError → List Shape → Result Command AllocError
    → Type 0
GetsCommands given subs result =
    IfOk result (λ after. IsOkAnd given (λ before. AddsCommands before subs after))
