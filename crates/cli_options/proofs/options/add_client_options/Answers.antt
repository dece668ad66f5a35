use Rattle.std.proofs.Common.{[]}
use Rattle.cli_common.proofs.Making.{help_set, short_set, no_option, option_more}
use Rattle.cli_options.proofs.options.add_client_options.Goals as goal

pub returns : goal.returns
returns c =
    let clients = help_set _ _ _ _ c.help-clients.ensures (short_set _ _ _ _ c.short.ensures c.number_option.ensures) in
    let tasks = help_set _ _ _ _ c.help-tasks.ensures (short_set _ _ _ _ c.short-2.ensures c.number_option-2.ensures) in
    let rounds = help_set _ _ _ _ c.help-rounds.ensures c.number_option-3.ensures in
    let s1 = option_more _ _ _ _ [] _ (no_option c.args.command) c.add_option.ensures clients in
    let s2 = option_more _ _ _ _ _ _ s1 c.add_option-2.ensures tasks in
    option_more _ _ _ _ _ _ s2 c.add_option-3.ensures rounds
