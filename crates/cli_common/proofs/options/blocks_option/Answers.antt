use Rattle.cli_common.proofs.Making.{help_set}
use Rattle.cli_common.proofs.options.blocks_option.Goals as goal

pub returns : goal.returns
returns c = help_set _ _ _ _ c.help.ensures c.number_option.ensures
