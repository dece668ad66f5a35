use Rattle.std.proofs.Common.{◌∙◌, ap}
use Rattle.std.specs.Prelude.{map}
use Rattle.std.specs.Borrow.{Bor}
use Rattle.std.proofs.lemmas.Result.{IfOk-weaker}
use Rattle.clap.specs.Words.{Text, found_of}
use Rattle.clap.proofs.WalkLemmas.{raw_values-rows}
use Rattle.cli_common.proofs.AllValues.{values_given, no_values}
use Rattle.cli_common.proofs.values.values_of.Goals as goal

pub returns-in-Some : goal.returns-in-Some
returns-in-Some c = IfOk-weaker c.from_slice.result _ _
    (λ values h. ap (map (λ (value : Bor Text). value.now)) h ∙ values_given _ _ _
    (c.get_strs.ensures ∙ raw_values-rows (found_of c.args.matches.now) c.args.option.now) c.in-Some.is)
    c.from_slice.ensures.items

pub returns-in-None : goal.returns-in-None
returns-in-None c = ap (map (λ (value : Bor Text). value.now)) c.new.ensures.items ∙ no_values _ _
    (c.get_strs.ensures ∙ raw_values-rows (found_of c.args.matches.now) c.args.option.now) c.in-None.is
