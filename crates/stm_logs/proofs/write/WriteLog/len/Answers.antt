use Rattle.std.proofs.Common.{sym, ap, ◌∙◌}
use Rattle.std.specs.FinMap.{len}
use Rattle.stm_logs.specs.Log.{LogValue}
use Rattle.stm_logs.proofs.ShortLemmas.{short_len}
use Rattle.stm_logs.proofs.WriteLemmas.{short_value}
use Rattle.stm_logs.proofs.write.WriteLog.len.Goals as goal

pub returns-else-self : goal.returns-else-self
returns-else-self g c =
    c.len-else-self.ensures ∙ sym (short_len c.self.inside.short c.self.invariant.0)
    ∙ ap (λ (w : LogValue). len w.words) (short_value c.self.inside.short c.self.inside.long c.args.self.now
    c.self.inside.is_long c.if-self.false c.self.view_is)
