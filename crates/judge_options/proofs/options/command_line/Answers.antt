use Rattle.std.proofs.Common.{[], ◌∷◌, Ok}
use Rattle.std.specs.Prelude.{codes}
use Rattle.cli_common.specs.Options.{blocks_option, with_options}
use Rattle.cli_common.proofs.Making.{no_command, command_more, commands_of}
use Rattle.judge_options.specs.CommandLine.{history_options, searching_options, attempts_options, part_options}
use Rattle.judge_options.specs.CommandLine.{keys_options, top_command, judging_commands}
use Rattle.judge_options.proofs.options.command_line.Goals as goal

pub returns : goal.returns
returns c =
    let top = Ok c.top_command.result in
    let history = with_options (codes "history") history_options in
    let order = with_options (codes "order") (blocks_option ∷ searching_options) in
    let attempts = with_options (codes "attempts") attempts_options in
    let part = with_options (codes "part") part_options in
    let keys = with_options (codes "keys") keys_options in
    let queue = with_options (codes "queue") searching_options in
    let s1 = command_more top top c.history_command.result c.add_command-top.result [] history (no_command top)
    c.add_command-top.ensures c.history_command.ensures in
    let s2 = command_more top c.add_command-top.result c.order_command.result c.add_command.result (history ∷ [])
    order s1 c.add_command.ensures c.order_command.ensures in
    let s3 = command_more top c.add_command.result c.attempts_command.result c.add_command-top-2.result
    (history ∷ order ∷ []) attempts s2 c.add_command-top-2.ensures c.attempts_command.ensures in
    let s4 = command_more top c.add_command-top-2.result c.part_command.result c.add_command-2.result
    (history ∷ order ∷ attempts ∷ []) part s3 c.add_command-2.ensures c.part_command.ensures in
    let s5 = command_more top c.add_command-2.result c.keys_command.result c.add_command-top-3.result
    (history ∷ order ∷ attempts ∷ part ∷ []) keys s4 c.add_command-top-3.ensures c.keys_command.ensures in
    let s6 = command_more top c.add_command-top-3.result c.queue_command.result c.add_command-3.result
    (history ∷ order ∷ attempts ∷ part ∷ keys ∷ []) queue s5 c.add_command-3.ensures c.queue_command.ensures in
    commands_of c.top_command.result c.add_command-3.result top_command judging_commands c.top_command.ensures s6
