use Rattle.std.proofs.Common.{ℕ, List, Option, ap, sym, subst}
use Rattle.std.specs.Prelude.{option_map}
use Rattle.cli_judge.specs.Ordering.{JudgesAnyWith}
use Rattle.cli_judge.proofs.searching.judge_any_order.Goals as goal

pub returns-in-None : goal.returns-in-None
returns-in-None g c =
    subst (λ (w : Option (Option (List ℕ))). JudgesAnyWith w c.args.how.now.search.level c.args.how.now.blocks
    c.args.how.now.search.steps c.judge_found.result (g.R.Read.remaining c.args.input.now)
    (g.R.Read.remaining c.judge_found.new.input)
    (g.W.Write.contents c.args.output.now) (g.W.Write.contents c.judge_found.new.output))
    (sym (ap (option_map g.F.Read.remaining) c.in-None.is)) c.judge_found.ensures

pub returns-in-Some : goal.returns-in-Some
returns-in-Some g c =
    subst (λ (w : Option (Option (List ℕ))). JudgesAnyWith w c.args.how.now.search.level c.args.how.now.blocks
    c.args.how.now.search.steps c.judge_found_work.result (g.R.Read.remaining c.args.input.now)
    (g.R.Read.remaining c.judge_found_work.new.input)
    (g.W.Write.contents c.args.output.now) (g.W.Write.contents c.judge_found_work.new.output))
    (sym (ap (option_map g.F.Read.remaining) c.in-Some.is)) c.judge_found_work.ensures
