use Rattle.cli_common.proofs.Making.{help_set}
use Rattle.judge_options.proofs.options.coverage_flag.Goals as goal

pub returns : goal.returns
returns c = help_set _ _ _ _ c.help.ensures c.flag.ensures
