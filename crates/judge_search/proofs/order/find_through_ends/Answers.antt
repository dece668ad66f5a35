use Rattle.std.proofs.Common.{subst, ◌∙◌, arith}
use Rattle.judge_search.specs.declared.walk.Finding.TheVariants as finding
use Rattle.judge_search.specs.Frontier.{ShowsNoOrder}
use Rattle.judge_search.specs.Point.{point_at, point_views}
use Rattle.judge_search.proofs.Judged.{judges}
use Rattle.judge_search.proofs.order.find_through_ends.Goals as goal

pub returns-in-NoOrder : goal.returns-in-NoOrder
returns-in-NoOrder g c =
    let X = g.M.Object.rules in
    let calls = c.args.calls.now in
    let start = c.new-start.result in
    record {
      within = omega arith;
      run = tt;
      finds = judges X calls start c.args.machine.now 0 c.requires.whole c.new-start.ensures.low
          c.new-start.ensures.beyond (c.new-start.ensures.machine ∙ c.in_ok-copy.ensures)
          (finding.NoOrder c.in-NoOrder.most c.in-NoOrder.point)
          (subst (ShowsNoOrder X (point_views X calls) (point_at X calls start)) c.in-NoOrder.is
          c.in_ok-finding.ensures);
      spent = λ none. absurd none;
    }
