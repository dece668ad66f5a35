use Rattle.std.proofs.Common.{[], refl, Ok}
use Rattle.cli_common.proofs.Making.{new_command, command_and, command_gets}
use Rattle.judge_options.proofs.options.order_command.Goals as goal

pub returns : goal.returns
returns c =
    let new = new_command _ _ _ _ _ _ c.new.ensures.app c.new.ensures.local c.about.ensures c.after_help.ensures in
    let command = command_and (Ok c.after_help.result) _ _ _ [] _ new c.arg-command.ensures c.blocks_option.ensures in
    command_gets _ _ _ _ _ refl command c.add_searching_options.ensures
