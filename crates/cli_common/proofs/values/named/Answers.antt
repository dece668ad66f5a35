use Rattle.std.specs.Box.{box_value}
use Rattle.clap.specs.Words.{found_of, rows_of}
use Rattle.clap.specs.declared.parser.matches.ArgMatches.TheViews.{out-ArgMatches, out-SubCommand}
use Rattle.cli_common.proofs.FoundRows.{named_some, named_found}
use Rattle.cli_common.proofs.values.named.Goals as goal

pub returns-clause-some : goal.returns-clause-some
returns-clause-some c = named_some (out-ArgMatches c.args.matches.now).subcommand
    (λ b. (out-SubCommand (box_value b)).name.now) (λ b. rows_of (found_of (out-SubCommand (box_value b)).matches))
    c.subcommand_matches.result (λ m. rows_of (found_of m.now)) c.args.name.now c.subcommand_matches.ensures.found
    c.subcommand_matches.ensures.rows

pub returns-clause-none : goal.returns-clause-none
returns-clause-none c = λ rows e. named_found (out-ArgMatches c.args.matches.now).subcommand
    (λ b. (out-SubCommand (box_value b)).name.now) (λ b. rows_of (found_of (out-SubCommand (box_value b)).matches))
    c.subcommand_matches.result c.args.name.now rows c.subcommand_matches.ensures.found e
