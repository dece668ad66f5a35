use Rattle.std.proofs.Common.{◌≡◌, length}
use Rattle.judge_text.specs.Classing.{object_of, for_object}
use Rattle.judge_text.specs.Numbers.{AreNumbered}
use Rattle.judge_text.proofs.Grouping.{AreFoundTo}
use Rattle.judge_text.proofs.runs.numbers_of.Given as goal

abbrev pub invariant-lines : goal.invariant-lines
invariant-lines g l = record {
  formed : AreNumbered l.numbers;
  long : length l.found.items ≡ l.place;
  each : AreFoundTo (for_object (object_of l.names) (g.M.Named.name)) l.numbers l.lines l.found.items l.place;
}
