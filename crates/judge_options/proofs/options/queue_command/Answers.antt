use Rattle.std.proofs.Common.{refl, Ok}
use Rattle.cli_common.proofs.Making.{new_command, command_gets}
use Rattle.judge_options.proofs.options.queue_command.Goals as goal

pub returns : goal.returns
returns c =
    let new = new_command _ _ _ _ _ _ c.new.ensures.app c.new.ensures.local c.about.ensures c.after_help-command.ensures
    in
    command_gets (Ok c.after_help-command.result) _ _ _ _ refl new c.add_searching_options.ensures
