use Rattle.stm_logs.proofs.ShortLemmas.{new_short}
use Rattle.stm_logs.proofs.short.ShortLog.new.Goals as goal

pub returns-clause-short : goal.returns-clause-short
returns-clause-short c = new_short c.new.result c.new.ensures
