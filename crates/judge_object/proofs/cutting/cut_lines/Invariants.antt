use Rattle.std.proofs.Common.{◌≡◌, ◌++◌, map}
use Rattle.std.specs.List.{filter_map}
use Rattle.std.specs.Vec.Iter.{into_iter_items}
use Rattle.judge_object.specs.Cut.{line_cut, numbered}
use Rattle.judge_object.proofs.cutting.cut_lines.Given as goal

-- the lines so far as they stood
abbrev pub invariant-lines : goal.invariant-lines
invariant-lines g l = record {
  all : l.fn.lines.items ≡ l.yielded ++ into_iter_items l.line-iterator;
  are : map numbered l.cut.items ≡ filter_map (line_cut l.moment) l.yielded;
}
