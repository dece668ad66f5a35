use Rattle.std.proofs.Common.{◌≡◌, ◌<◌}
use Rattle.stm_logs.specs.Nodes.{at}
use Rattle.stm_logs.specs.Chain.{EndsWithin, locks_from}
use Rattle.stm_logs.proofs.chain.past.Given as goal

abbrev pub invariant-loop-start : goal.invariant-loop-start
invariant-loop-start g l = record {
  some : 0 < l.at;
  ends : EndsWithin l.nodes.list l.left l.at;
  lock : (at l.nodes.list l.at).lock ≡ (at l.nodes.list l.start).lock;
  locks : locks_from l.nodes.list l.most l.start ≡ locks_from l.nodes.list l.left l.at;
}

abbrev pub decreases-loop-start : goal.decreases-loop-start
decreases-loop-start g l = l.left
