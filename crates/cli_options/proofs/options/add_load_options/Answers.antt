use Rattle.cli_common.proofs.Making.{gets_both}
use Rattle.cli_options.proofs.options.add_load_options.Goals as goal

pub returns : goal.returns
returns c = gets_both _ _ _ _ _ c.add_drawing_options.ensures c.add_running_options.ensures
