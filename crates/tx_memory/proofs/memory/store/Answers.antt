use Rattle.tx_memory.specs.Seen.{has_stored}
use Rattle.tx_memory.proofs.memory.store.Goals as goal

pub returns-clause-answer : goal.returns-clause-answer
returns-clause-answer g c = has_stored _ _ _ _ _ c.write.ensures.frame c.write.ensures.reads c.write.ensures.answer
