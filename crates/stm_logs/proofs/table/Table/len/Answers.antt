use Rattle.std.proofs.Common.{sym, ap, ◌∙◌}
use Rattle.std.specs.FinMap.{len}
use Rattle.stm_logs.specs.Log.{LogValue}
use Rattle.stm_logs.proofs.LogLemmas.{count_words}
use Rattle.stm_logs.proofs.table.Table.len.Goals as goal

pub returns : goal.returns
returns g c = c.count.ensures ∙ sym (count_words _ _ c.self.invariant.ready.chained) ∙
    ap (λ (w : LogValue). len w.words) c.self.view_is
