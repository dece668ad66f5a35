use Rattle.std.proofs.Common.{ℕ, sym, ap, ◌∙◌}
use Rattle.std.specs.FinMap.{len, len-empty}
use Rattle.std.specs.Ordering.{nat_cmp}
use Rattle.stm_logs.specs.Log.{LogValue}
use Rattle.stm_logs.proofs.LogLemmas.{held_none}
use Rattle.stm_logs.proofs.long.LongLog.len.Goals as goal

pub returns-in-None : goal.returns-in-None
returns-in-None g c = sym (ap (λ (w : LogValue). len w.words)
    (held_none c.self.inside.table _ c.in-None.is c.self.view_is) ∙ len-empty nat_cmp ℕ)
