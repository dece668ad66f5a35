use Rattle.std.proofs.Common.{◌∙◌, codes}
use Rattle.clap.specs.Words.{found_of}
use Rattle.clap.proofs.WalkLemmas.{first_value-rows}
use Rattle.judge_options.proofs.Levels.{level_at, no_level_at}
use Rattle.judge_options.proofs.asked.level_of.Goals as goal

pub returns-in-Some : goal.returns-in-Some
returns-in-Some c = c.level_named.ensures ∙ level_at c.get_str.result _ _
    (c.get_str.ensures ∙ first_value-rows (found_of c.args.matches.now) (codes "level")) c.in-Some.is

pub returns-in-None : goal.returns-in-None
returns-in-None c = no_level_at c.get_str.result _
    (c.get_str.ensures ∙ first_value-rows (found_of c.args.matches.now) (codes "level")) c.in-None.is
