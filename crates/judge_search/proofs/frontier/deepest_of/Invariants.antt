use Rattle.std.proofs.Common.{◌≡◌, ◌++◌}
use Rattle.std.specs.Vec.Iter.{into_iter_items}
use Rattle.judge_search.specs.Frontier.{IsDeepestOf}
use Rattle.judge_search.proofs.frontier.deepest_of.Given as goal

abbrev pub invariant-nodes : goal.invariant-nodes
invariant-nodes g l = record {
  all : l.fn.nodes.items ≡ l.yielded ++ into_iter_items l.node-iterator;
  deepest : IsDeepestOf l.fn.best l.yielded l.best;
}
