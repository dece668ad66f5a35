use Rattle.std.proofs.Common.{leb-true, ℕ, List, Option, ap, sym, subst}
use Rattle.std.specs.Prelude.{option_map}
use Rattle.std.proofs.lemmas.Bool.{and_parts}
use Rattle.cli_judge.specs.Judging.{JudgesWith}
use Rattle.cli_judge.proofs.Judgement.{held_judged}
use Rattle.cli_judge.proofs.judging.judge_with.Goals as goal

pub judge_with_workload-requires-clause-some : goal.judge_with_workload-requires-clause-some
judge_with_workload-requires-clause-some g c = leb-true _ _ (and_parts _ _ c.requires).0

pub judge_with_workload-requires-clause-most : goal.judge_with_workload-requires-clause-most
judge_with_workload-requires-clause-most g c = leb-true _ _ (and_parts _ _ c.requires).1

pub returns-in-None : goal.returns-in-None
returns-in-None g c =
    subst (λ (w : Option (Option (List ℕ))). JudgesWith w c.args.blocks c.judge_alone.result
    (g.R.Read.remaining c.args.input.now) (g.R.Read.remaining c.judge_alone.new.input)
    (g.W.Write.contents c.args.output.now) (g.W.Write.contents c.judge_alone.new.output))
    (sym (ap (option_map g.F.Read.remaining) c.in-None.is)) c.judge_alone.ensures

pub returns-in-Some : goal.returns-in-Some
returns-in-Some g c =
    subst (λ (w : Option (Option (List ℕ))). JudgesWith w c.args.blocks c.end_judged.result
    (g.R.Read.remaining c.args.input.now) (g.R.Read.remaining c.judge_with_workload.new.input)
    (g.W.Write.contents c.args.output.now) (g.W.Write.contents c.end_judged.new.output))
    (sym (ap (option_map g.F.Read.remaining) c.in-Some.is))
    (held_judged _ _ c.args.blocks c.judge_with_workload.result _ _ _ _ _ _ c.judge_with_workload.ensures.ok
    c.judge_with_workload.ensures.err c.end_judged.ensures)
