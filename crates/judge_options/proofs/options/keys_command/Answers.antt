use Rattle.std.proofs.Common.{[], refl, Ok}
use Rattle.cli_common.proofs.Making.{help_set, new_command, command_and, command_gets, no_option, option_more}
use Rattle.judge_options.proofs.options.keys_command.Goals as goal

pub returns : goal.returns
returns c =
    let whole = help_set _ _ _ _ c.help-whole.ensures c.flag.ensures in
    let new = new_command _ _ _ _ _ _ c.new.ensures.app c.new.ensures.local c.about.ensures c.after_help.ensures in
    let command = command_and (Ok c.after_help.result) _ _ _ [] _ new c.arg-command.ensures whole in
    let s1 = option_more _ _ _ _ [] _ (no_option c.arg-command.result) c.add_option-command.ensures
    c.start_option.ensures in
    let both = command_gets _ _ _ _ _ refl command s1 in
    command_gets _ _ _ _ _ refl both c.add_searching_options.ensures
