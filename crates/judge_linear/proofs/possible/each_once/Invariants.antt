use Rattle.std.proofs.Common.{◌≡◌, ◌++◌}
use Rattle.std.specs.Vec.Iter.{into_iter_items}
use Rattle.judge_linear.specs.Possible.{AreSameOnce}
use Rattle.judge_linear.proofs.possible.each_once.Given as goal

abbrev pub invariant-states : goal.invariant-states
invariant-states l = record {
  all : l.fn.states.items ≡ l.yielded ++ into_iter_items l.state-iterator;
  same : AreSameOnce l.yielded l.once.items;
}
