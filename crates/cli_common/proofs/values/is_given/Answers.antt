use Rattle.std.proofs.Common.{◌∙◌, ap}
use Rattle.clap.specs.Words.{found_of}
use Rattle.cli_common.specs.Values.{is_of_words}
use Rattle.cli_common.proofs.Sources.{source_in_rows}
use Rattle.cli_common.proofs.values.is_given.Goals as goal

pub returns : goal.returns
returns c = c.is_of_words.ensures ∙ ap is_of_words
    (c.value_source.ensures ∙ source_in_rows (found_of c.args.matches.now) c.args.option.now)
