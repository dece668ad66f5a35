use Rattle.judge_linear.proofs.Below.{told_at}
use Rattle.judge_linear.proofs.ordering.order_calls.Goals as goal

pub returns : goal.returns
returns g c = λ bytes texts listed right.
    told_at c.args.how.blocks c.args.how.steps c.args.history c.requires.held c.requires.most bytes texts listed right
    c.in_ok-searched.searched _ _
    (λ kept lines n given left bytes few k j read before less.
    c.in_ok-outcome.ensures.text kept lines n given left bytes few k j read before less c.new-text.ensures.items)
    c.in_ok-outcome.ensures.order c.args.how.level c.in_ok-searched.ensures
