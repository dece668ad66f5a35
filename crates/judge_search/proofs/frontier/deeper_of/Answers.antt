use Rattle.std.proofs.Common.{◌≡◌, ap, arith}
use Rattle.judge_search.specs.Frontier.{placed_at}
use Rattle.judge_search.proofs.Fronts.{deepest_this}
use Rattle.judge_search.proofs.frontier.deeper_of.Goals as goal

pub returns-else-node-best : goal.returns-else-node-best
returns-else-node-best g c =
    let e : placed_at c.args.best ≡ c.in-Some.best.placed = ap placed_at c.in-Some.is in
    let t = c.if-node-best.false in
    deepest_this c.args.best c.args.node (omega arith)

pub returns-in-None : goal.returns-in-None
returns-in-None g c =
    let e : placed_at c.args.best ≡ 0 = ap placed_at c.in-None.is in
    deepest_this c.args.best c.args.node (omega arith)
