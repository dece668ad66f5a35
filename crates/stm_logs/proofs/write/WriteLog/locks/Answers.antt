use Rattle.std.proofs.Common.{ap, ◌∙◌}
use Rattle.stm_logs.specs.declared.short.ShortLog.{ShortLog}
use Rattle.stm_logs.specs.Keys.{key_at}
use Rattle.stm_logs.specs.Log.{log_locks}
use Rattle.stm_logs.specs.Short.{locks_at}
use Rattle.stm_logs.proofs.ChainLemmas.{empty_locks}
use Rattle.stm_logs.proofs.WalkLemmas.{all_locks}
use Rattle.stm_logs.proofs.WriteLemmas.{both_parts}
use Rattle.stm_logs.proofs.write.WriteLog.locks.Goals as goal

pub returns : goal.returns
returns g c =
    let s : ShortLog = c.self.inside.short in
    both_parts log_locks s c.self.inside.long c.args.self.now c.self.inside.is_long
    (locks_at (key_at s.keys) c.len.result 0) c.locks.result empty_locks c.self.invariant.1 c.self.invariant.2
    c.self.view_is (ap (λ n. locks_at (key_at s.keys) n 0) c.len.ensures ∙ all_locks s c.self.invariant.0)
    c.locks.ensures
