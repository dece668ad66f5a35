use Rattle.judge_object.proofs.CutLines.{one_on}
use Rattle.judge_search.proofs.Fronts.{deepest_more}
use Rattle.judge_search.proofs.frontier.deepest_of.Goals as goal

pub nodes-preserved : goal.nodes-preserved
nodes-preserved g c = record {
  all = one_on _ _ _ _ _ c.nodes.invariant.all c.in-Some.ensures.steps.0;
  deepest = deepest_more c.args.best c.nodes.best c.deeper_of-best.result c.nodes.yielded c.in-Some.node
      c.nodes.invariant.deepest c.deeper_of-best.ensures;
}
