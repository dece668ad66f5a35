use Rattle.std.proofs.Common.{sym}
use Rattle.stm_logs.proofs.LogLemmas.{none_there}
use Rattle.stm_logs.proofs.long.LongLog.get.Goals as goal

pub returns-in-None : goal.returns-in-None
returns-in-None g c = sym (none_there c.self.inside.table _ c.args.addr.0 c.in-None.is c.self.view_is)
