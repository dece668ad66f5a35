use Rattle.cli_common.proofs.Making.{all_commands}
use Rattle.cli_options.proofs.options.command_line.Goals as goal

pub returns : goal.returns
returns c = all_commands _ _ _ _ _ _ c.top_command.ensures c.add_memory_commands.ensures c.add_load_commands.ensures
