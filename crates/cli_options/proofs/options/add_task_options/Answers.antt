use Rattle.std.proofs.Common.{[]}
use Rattle.cli_common.proofs.Making.{help_set, short_set, no_option, option_more}
use Rattle.cli_options.proofs.options.add_task_options.Goals as goal

pub returns : goal.returns
returns c =
    let items = help_set _ _ _ _ c.help-items.ensures (short_set _ _ _ _ c.short.ensures c.number_option.ensures) in
    let asks = help_set _ _ _ _ c.help-asks.ensures (short_set _ _ _ _ c.short-2.ensures c.number_option-2.ensures) in
    let reads = help_set _ _ _ _ c.help-reads.ensures c.number_option-3.ensures in
    let user = help_set _ _ _ _ c.help-user.ensures (short_set _ _ _ _ c.short-3.ensures c.number_option-4.ensures) in
    let seed = help_set _ _ _ _ c.help-seed.ensures (short_set _ _ _ _ c.short-4.ensures c.any_number_option.ensures) in
    let s1 = option_more _ _ _ _ [] _ (no_option c.args.command) c.add_option.ensures items in
    let s2 = option_more _ _ _ _ _ _ s1 c.add_option-command.ensures asks in
    let s3 = option_more _ _ _ _ _ _ s2 c.add_option-2.ensures reads in
    let s4 = option_more _ _ _ _ _ _ s3 c.add_option-command-2.ensures user in
    let s5 = option_more _ _ _ _ _ _ s4 c.add_option-3.ensures seed in
    option_more _ _ _ _ _ _ s5 c.add_option-4.ensures c.blocks_option.ensures
