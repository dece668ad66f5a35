use Rattle.std.proofs.Common.{[]}
use Rattle.cli_common.proofs.Making.{help_set, no_option, option_more}
use Rattle.judge_options.proofs.options.add_searching_options.Goals as goal

pub returns : goal.returns
returns c =
    let steps = help_set _ _ _ _ c.help-steps.ensures c.any_number_option.ensures in
    let progress = help_set _ _ _ _ c.help-progress.ensures c.flag.ensures in
    let s1 = option_more _ _ _ _ [] _ (no_option c.args.command) c.add_option.ensures c.level_option.ensures in
    let s2 = option_more _ _ _ _ _ _ s1 c.add_option-command.ensures steps in
    let s3 = option_more _ _ _ _ _ _ s2 c.add_option-2.ensures progress in
    option_more _ _ _ _ _ _ s3 c.add_option-3.ensures c.coverage_flag.ensures
