use Rattle.std.proofs.Common.{[], Ok}
use Rattle.cli_common.proofs.Making.{new_command, command_and, no_command, command_more}
use Rattle.cli_options.proofs.options.add_memory_commands.Goals as goal

pub returns : goal.returns
returns c =
    let new_run = new_command _ _ _ _ _ _ c.new.ensures.app c.new.ensures.local c.about.ensures c.after_help.ensures in
    let run = command_and (Ok c.after_help.result) _ _ _ [] _ new_run c.arg-run.ensures c.blocks_option.ensures in
    let new_dump = new_command _ _ _ _ _ _ c.new-2.ensures.app c.new-2.ensures.local c.about-2.ensures
    c.after_help-2.ensures in
    let dump = command_and (Ok c.after_help-2.result) _ _ _ [] _ new_dump c.arg-dump.ensures
    c.blocks_option-2.ensures in
    let check = new_command _ _ _ _ _ _ c.new-3.ensures.app c.new-3.ensures.local c.about-3.ensures
    c.after_help-check.ensures in
    let s1 = command_more _ _ _ _ [] _ (no_command c.args.top) c.add_command.ensures run in
    let s2 = command_more _ _ _ _ _ _ s1 c.add_command-2.ensures dump in
    command_more _ _ (Ok c.after_help-check.result) _ _ _ s2 c.add_command-3.ensures check
