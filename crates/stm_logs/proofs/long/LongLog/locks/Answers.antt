use Rattle.std.proofs.Common.{sym, ap, ◌∙◌}
use Rattle.stm_logs.specs.Log.{LogValue, log_locks}
use Rattle.stm_logs.proofs.ChainLemmas.{empty_locks}
use Rattle.stm_logs.proofs.LogLemmas.{held_none}
use Rattle.stm_logs.proofs.long.LongLog.locks.Goals as goal

pub returns-in-None : goal.returns-in-None
returns-in-None g c = sym (ap (λ (w : LogValue). log_locks w)
    (held_none c.self.inside.table _ c.in-None.is c.self.view_is) ∙ empty_locks)
