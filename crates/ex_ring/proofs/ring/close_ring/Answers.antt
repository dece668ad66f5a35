use Rattle.ex_ring.proofs.Fifo.{closed_in_turn}
use Rattle.ex_ring.proofs.ring.close_ring.Goals as goal

pub returns-clause-closes : goal.returns-clause-closes
returns-clause-closes c =
    closed_in_turn (λ words. words.items) _ _ c.close.result c.requires.empty c.close.ensures.closes
