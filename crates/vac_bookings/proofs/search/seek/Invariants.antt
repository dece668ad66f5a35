use Rattle.std.proofs.Common.{◌≡◌, ◌-◌}
use Rattle.vac_bookings.specs.Bookings.{code_of}
use Rattle.vac_bookings.proofs.Seeking.{Seeking}
use Rattle.vac_bookings.proofs.search.seek.Given as goal

abbrev pub invariant-loop-word : goal.invariant-loop-word
invariant-loop-word g l = record {
  origin : g.M.TxRead.origin l.memory ≡ g.M.TxRead.origin l.initial.memory;
  seeking : Seeking (g.M.TxRead.view l.initial.memory) (g.M.TxRead.view l.memory) l.fn.head.0
      (code_of l.key) l.link.0 l.passed;
}

abbrev pub decreases-loop-word : goal.decreases-loop-word
decreases-loop-word g l = code_of l.key - l.passed
