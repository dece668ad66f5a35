use Rattle.cli_common.proofs.Making.{top_free}
use Rattle.judge_options.proofs.options.top_command.Goals as goal

pub returns : goal.returns
returns c = top_free _ _ _ _ _ _ _ _ c.new.ensures.app c.version.ensures c.about.ensures c.after_help.ensures
