use Rattle.std.proofs.Common.{◌≡◌, ◌<◌, length}
use Rattle.stm_logs.specs.Index.{home, IsOther, Along}
use Rattle.stm_logs.proofs.IndexLemmas.{to_go}
use Rattle.stm_logs.proofs.index.probe.Given as goal

abbrev pub invariant-loop-number : goal.invariant-loop-number
invariant-loop-number g l = record {
  len : l.len ≡ length l.nodes.list;
  inside : l.place < length l.nodes.list;
  along : Along (IsOther l.nodes.list l.number) (length l.nodes.list) (home l.number (length l.nodes.list)) l.place;
}

abbrev pub decreases-loop-number : goal.decreases-loop-number
decreases-loop-number g l = to_go (home l.number (length l.nodes.list)) (length l.nodes.list) l.place
