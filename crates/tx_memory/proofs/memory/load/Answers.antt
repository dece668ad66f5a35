use Rattle.tx_memory.specs.Seen.{has_loaded}
use Rattle.tx_memory.proofs.memory.load.Goals as goal

pub returns-clause-answer : goal.returns-clause-answer
returns-clause-answer g c = has_loaded _ _ _ _ c.read.ensures.frame c.read.ensures.writes c.read.ensures.answer
