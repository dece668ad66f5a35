use Rattle.std.proofs.Common.{sym, ap, ◌∙◌}
use Rattle.std.specs.FinMap.{get, get-empty}
use Rattle.std.specs.Ordering.{nat_cmp}
use Rattle.stm_logs.specs.Log.{LogValue}
use Rattle.stm_logs.proofs.TableLemmas.{some_none}
use Rattle.stm_logs.proofs.table.Table.with_word.Goals as goal

pub put-requires : goal.put-requires
put-requires g c = λ l at_l. absurd (some_none l (sym at_l ∙
    ap (λ (w : LogValue). get w.locks c.args.number) c.in_ok-table.ensures ∙ get-empty nat_cmp c.args.number))
