use Rattle.std.proofs.Common.{subst}
use Rattle.judge_linear.specs.Judged.{IsJudged}
use Rattle.judge_linear.proofs.Below.{given_whole, given_judged}
use Rattle.judge_linear.proofs.order.judge_given.Goals as goal

pub judge_order-requires : goal.judge_order-requires
judge_order-requires g c = record {
  whole = given_whole c.args.history c.in_ok-calls.calls c.requires.held c.in_ok-calls.ensures.merges;
}

pub returns : goal.returns
returns g c =
    given_judged c.args.history c.in_ok-calls.calls _ c.args.how.steps c.in_ok-judged.judged c.requires.held
    c.in_ok-calls.ensures.same c.in_ok-calls.ensures.merges
    (subst (λ s. IsJudged s c.in_ok-calls.calls c.args.how.steps c.in_ok-judged.judged) c.in_ok-machine.ensures
    c.in_ok-judged.ensures)
