use Rattle.std.proofs.Common.{[], refl, Ok}
use Rattle.cli_common.proofs.Making.{new_command, command_gets, no_command, command_more}
use Rattle.cli_options.proofs.options.add_load_commands.Goals as goal

pub returns : goal.returns
returns c =
    let load = new_command _ _ _ _ _ _ c.new.ensures.app c.new.ensures.local c.about.ensures
    c.after_help-load.ensures in
    let tasks = new_command _ _ _ _ _ _ c.new-2.ensures.app c.new-2.ensures.local c.about-2.ensures
    c.after_help-tasks.ensures in
    let with_load = command_gets (Ok c.after_help-load.result) _ _ _ _ refl load c.add_load_options.ensures in
    let with_tasks = command_gets (Ok c.after_help-tasks.result) _ _ _ _ refl tasks c.add_drawing_options.ensures in
    let s1 = command_more _ _ _ _ [] _ (no_command c.args.top) c.add_command-top.ensures with_load in
    command_more _ _ _ _ _ _ s1 c.add_command.ensures with_tasks
