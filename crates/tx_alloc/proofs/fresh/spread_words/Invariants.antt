use Rattle.tx_alloc.proofs.Spreading.{Spreading}
use Rattle.tx_alloc.proofs.fresh.spread_words.Given as goal

abbrev pub invariant-loop-list : goal.invariant-loop-list
invariant-loop-list l = Spreading l.words.items l.blocks l.list l.first
