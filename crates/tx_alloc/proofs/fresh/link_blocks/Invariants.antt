use Rattle.tx_alloc.proofs.Spreading.{Linking}
use Rattle.tx_alloc.proofs.fresh.link_blocks.Given as goal

abbrev pub invariant-loop-block : goal.invariant-loop-block
invariant-loop-block l = Linking l.fn.words l.words l.list l.first l.end l.block
