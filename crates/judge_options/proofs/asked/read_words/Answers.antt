use Rattle.std.proofs.Common.{◌∙◌, ap, subst, map, string_bytes}
use Rattle.std.proofs.lemmas.Result.{IfOk-weaker}
use Rattle.clap.specs.Words.{App, FailsBy, fault_of, is_simple, is_simple_and_free, subcommand_of}
use Rattle.judge_options.proofs.Accepted.{simple, simple_and_free}
use Rattle.judge_options.proofs.asked.read_words.Goals as goal

pub returns-clause-fails : goal.returns-clause-fails
returns-clause-fails c =
    let is = c.in_ok-command_line.ensures in
    subst (λ (a : App). FailsBy (fault_of a (map string_bytes c.args.words.now)) c.try_get_matches_from.result) is
    (c.try_get_matches_from.ensures.kinds (ap is_simple_and_free is ∙ simple_and_free))

pub returns-clause-found : goal.returns-clause-found
returns-clause-found c =
    let is = c.in_ok-command_line.ensures in
    IfOk-weaker c.try_get_matches_from.result _ _ (λ m h. (h (ap is_simple is ∙ simple)).1 ∙
    ap (λ (a : App). subcommand_of a (map string_bytes c.args.words.now)) is) c.try_get_matches_from.ensures.matches
