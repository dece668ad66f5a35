use Rattle.cli_judge.specs.Ordering.{Orders}
use Rattle.cli_judge.proofs.Reported.{beside, through}
use Rattle.cli_judge.proofs.searching.order.Goals as goal

pub returns-clause-ordered : goal.returns-clause-ordered
returns-clause-ordered g c =
    through (λ a b. Orders c.args.search.level c.args.blocks c.args.search.steps c.find_order_telling-status.result
    (g.R.Read.remaining a) (g.R.Read.remaining b) (g.W.Write.contents c.args.output.now)
    (g.W.Write.contents c.find_order_telling-status.new.output))
    _ _ _ _ c.watch.ensures.inner c.measure_calls.ensures.inner c.find_order_telling-status.ensures.ordered

pub returns-clause-reported : goal.returns-clause-reported
returns-clause-reported g c =
    beside _ _ _ _ _ _ _ c.find_order_telling-status.ensures.untold (c.measure_calls.result, c.report_calls.ensures)
