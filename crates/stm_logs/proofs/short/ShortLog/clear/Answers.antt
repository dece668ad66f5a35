use Rattle.stm_logs.proofs.ShortLemmas.{cleared_short}
use Rattle.stm_logs.proofs.short.ShortLog.clear.Goals as goal

pub returns-clause-short : goal.returns-clause-short
returns-clause-short c = cleared_short c.args.self.now c.clear.new.self c.requires.rows c.clear.ensures
