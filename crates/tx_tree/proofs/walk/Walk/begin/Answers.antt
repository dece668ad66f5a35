use Rattle.tx_tree.proofs.Walks.{begins, begun}
use Rattle.tx_tree.proofs.walk.Walk.begin.Goals as goal

pub descend-requires : goal.descend-requires
descend-requires g c = record { link = begins _ _ _ c.requires.table }

pub returns-clause-answer : goal.returns-clause-answer
returns-clause-answer g c = begun _ _ _ _ _ c.in_ok-descend.ensures.answer
