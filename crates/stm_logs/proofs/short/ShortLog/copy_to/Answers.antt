use Rattle.std.proofs.Common.{◌+◌, sym, ap, ◌∙◌, arith}
use Rattle.std.specs.FinMap.{get}
use Rattle.stm_logs.specs.Log.{LogValue}
use Rattle.stm_logs.specs.Short.{entry}
use Rattle.stm_logs.proofs.TableLemmas.{some_none}
use Rattle.stm_logs.proofs.ShortLemmas.{next_is_new}
use Rattle.stm_logs.proofs.short.ShortLog.copy_to.Goals as goal

pub put-requires : goal.put-requires
put-requires g c = λ l at_l. absurd (some_none l (sym at_l ∙
    ap (λ (w : LogValue). get w.locks (entry c.args.self.now.numbers (c.loop-e.e + 1))) c.loop-e.invariant ∙
    next_is_new c.args.self.now c.loop-e.e c.requires.short (omega arith)))
