use Rattle.std.proofs.Common.{◌≡◌, ◌++◌}
use Rattle.std.specs.Vec.Iter.{into_iter_items}
use Rattle.judge_snapshot.proofs.Whole.{Made}
use Rattle.judge_snapshot.proofs.horizons.commits_of.Given as goal

-- the commits of the lines so far
abbrev pub invariant-lines : goal.invariant-lines
invariant-lines g l = record {
  all : l.fn.lines.items ≡ l.yielded ++ into_iter_items l.line-iterator;
  made : Made l.spans.items l.yielded l.commits.items;
}
