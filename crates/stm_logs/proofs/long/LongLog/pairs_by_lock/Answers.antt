use Rattle.std.proofs.Common.{sym, ap, ◌∙◌}
use Rattle.stm_logs.specs.Log.{LogValue, pairs_by_lock}
use Rattle.stm_logs.proofs.PairLemmas.{empty_by_lock}
use Rattle.stm_logs.proofs.LogLemmas.{held_none}
use Rattle.stm_logs.proofs.long.LongLog.pairs_by_lock.Goals as goal

pub returns-in-None : goal.returns-in-None
returns-in-None g c = sym (ap (λ (w : LogValue). pairs_by_lock w)
    (held_none c.self.inside.table _ c.in-None.is c.self.view_is) ∙ empty_by_lock)
