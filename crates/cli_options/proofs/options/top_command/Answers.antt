use Rattle.cli_common.proofs.Making.{top_made}
use Rattle.cli_options.proofs.options.top_command.Goals as goal

pub returns : goal.returns
returns c = top_made _ _ _ _ _ _ _ c.new.ensures.app c.version.ensures c.about.ensures c.subcommand_required.ensures
