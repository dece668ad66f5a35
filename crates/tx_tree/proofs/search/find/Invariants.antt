use Rattle.std.proofs.Common.{◌≡◌, ℕ, Option}
use Rattle.tx_tree.proofs.Spots.{Descending}
use Rattle.tx_tree.proofs.search.find.Given as goal

abbrev pub invariant-loop : goal.invariant-loop
invariant-loop g l = record {
  origin : g.M.TxRead.origin l.memory ≡ g.M.TxRead.origin l.initial.memory;
  way : (next : Option (ℕ × ℕ)) × Descending (g.M.TxRead.view l.initial.memory)
      (g.M.TxRead.view l.memory) l.fn.root.0 l.key l.key l.link l.counter next;
}
