use Rattle.std.proofs.Common.{◌≡◌, ◌↔◌, ℕ, Some, nat_eq, not, true, subst}
use Rattle.std.specs.FinMap.{get}
use Rattle.stm_logs.specs.Log.{LogValue}
use Rattle.stm_logs.proofs.WriteLemmas.{short_value, has_lock_short}
use Rattle.stm_logs.proofs.write.WriteLog.has_lock.Goals as goal

pub returns-else-self : goal.returns-else-self
returns-else-self g c =
    subst (λ (w : LogValue). (not (nat_eq c.word_of.result 0) ≡ true)
    ↔ ((a : ℕ) × (get w.locks a ≡ Some c.args.lock)))
    (short_value c.self.inside.short c.self.inside.long c.args.self.now c.self.inside.is_long c.if-self.false
    c.self.view_is)
    (has_lock_short c.self.inside.short c.args.lock c.word_of.result c.self.invariant.0 c.word_of.ensures.there
    c.word_of.ensures.none)
