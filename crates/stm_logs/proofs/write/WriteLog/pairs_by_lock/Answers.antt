use Rattle.std.proofs.Common.{ap, ◌∙◌}
use Rattle.stm_logs.specs.declared.short.ShortLog.{ShortLog}
use Rattle.stm_logs.specs.Log.{pairs_by_lock}
use Rattle.stm_logs.specs.Short.{pairs_at}
use Rattle.stm_logs.proofs.PairLemmas.{empty_by_lock}
use Rattle.stm_logs.proofs.WalkLemmas.{all_pairs}
use Rattle.stm_logs.proofs.WriteLemmas.{both_parts}
use Rattle.stm_logs.proofs.write.WriteLog.pairs_by_lock.Goals as goal

pub returns : goal.returns
returns g c =
    let s : ShortLog = c.self.inside.short in
    both_parts pairs_by_lock s c.self.inside.long c.args.self.now c.self.inside.is_long
    (pairs_at s c.len.result 0) c.pairs_by_lock.result empty_by_lock c.self.invariant.1 c.self.invariant.2
    c.self.view_is (ap (λ n. pairs_at s n 0) c.len.ensures ∙ all_pairs s c.self.invariant.0)
    c.pairs_by_lock.ensures
