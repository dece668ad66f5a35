use Rattle.stm_logs.proofs.LogLemmas.{none_there}
use Rattle.stm_logs.proofs.long.LongLog.put.Goals as goal

pub returns-in-None-clause-there : goal.returns-in-None-clause-there
returns-in-None-clause-there g c = λ there. absurd (there (none_there c.self.inside.table _ c.args.addr.0 c.in-None.is
    c.self.view_is))
