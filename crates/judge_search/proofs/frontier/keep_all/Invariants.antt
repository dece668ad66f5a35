use Rattle.std.proofs.Common.{◌≡◌, ◌++◌}
use Rattle.std.specs.Vec.Iter.{into_iter_items}
use Rattle.judge_search.specs.Frontier.{AreUnfinished, KeepsAll}
use Rattle.judge_search.proofs.frontier.keep_all.Given as goal

abbrev pub invariant-nodes : goal.invariant-nodes
invariant-nodes g l = record {
  all : l.fn.nodes.items ≡ l.yielded ++ into_iter_items l.node-iterator;
  keeps : KeepsAll (g.M.Object.rules) l.calls l.yielded l.fn.front l.front;
  left : AreUnfinished (g.M.Object.rules) l.calls l.yielded;
}
