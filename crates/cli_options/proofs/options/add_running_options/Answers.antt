use Rattle.std.proofs.Common.{[]}
use Rattle.cli_common.proofs.Making.{help_set, no_option, option_more}
use Rattle.cli_options.proofs.options.add_running_options.Goals as goal

pub returns : goal.returns
returns c =
    let tries = help_set _ _ _ _ c.help-tries.ensures c.number_option.ensures in
    let progress = help_set _ _ _ _ c.help-progress.ensures c.flag.ensures in
    let stats = help_set _ _ _ _ c.help-stats.ensures c.flag-2.ensures in
    let history = help_set _ _ _ _ c.help-history.ensures c.flag-3.ensures in
    let attempts = help_set _ _ _ _ c.help-attempts.ensures c.flag-4.ensures in
    let s1 = option_more _ _ _ _ [] _ (no_option c.args.command) c.add_option.ensures tries in
    let s2 = option_more _ _ _ _ _ _ s1 c.add_option-command.ensures progress in
    let s3 = option_more _ _ _ _ _ _ s2 c.add_option-2.ensures stats in
    let s4 = option_more _ _ _ _ _ _ s3 c.add_option-3.ensures history in
    option_more _ _ _ _ _ _ s4 c.add_option-4.ensures attempts
