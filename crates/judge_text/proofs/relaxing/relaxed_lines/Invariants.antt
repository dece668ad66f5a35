use Rattle.std.proofs.Common.{◌≡◌, ◌++◌}
use Rattle.std.specs.Vec.Iter.{into_iter_items}
use Rattle.judge_text.specs.Relaxing.{AreRelaxed}
use Rattle.judge_text.proofs.relaxing.relaxed_lines.Given as goal

abbrev pub invariant-loop-line : goal.invariant-loop-line
invariant-loop-line g l = record {
  all : l.fn.lines.items ≡ l.yielded ++ into_iter_items l.line-iterator;
  are : AreRelaxed l.level l.yielded l.found.items;
}
