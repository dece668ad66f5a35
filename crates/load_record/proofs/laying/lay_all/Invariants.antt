use Rattle.std.proofs.Common.{◌≡◌, ◌+◌, ◌++◌, length}
use Rattle.std.specs.List.{All}
use Rattle.load_record.specs.Laying.{IsLaidFirst, writes_from, done_by}
use Rattle.load_record.proofs.laying.lay_all.Given as goal

-- what is laid, and what is left
abbrev pub invariant-pieces : goal.invariant-pieces
invariant-pieces l = record {
  count : l.first + length l.left ≡ length l.words;
  laid : All (λ a. IsLaidFirst a) l.laid.items;
  writes : done_by l.laid.items ++ writes_from l.first l.left ≡ writes_from 0 l.words;
}

abbrev pub decreases-pieces : goal.decreases-pieces
decreases-pieces l = length l.left
