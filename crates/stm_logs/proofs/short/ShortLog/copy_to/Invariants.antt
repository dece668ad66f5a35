use Rattle.std.proofs.Common.{◌≡◌}
use Rattle.stm_logs.proofs.ShortLemmas.{first_words}
use Rattle.stm_logs.proofs.short.ShortLog.copy_to.Given as goal

abbrev pub invariant-loop-e : goal.invariant-loop-e
invariant-loop-e g l = l.long ≡ first_words l.self l.e
