-- What a lone attempt finds: nothing that could stop it.
use Rattle.std.proofs.Common.{◌≡◌, ◌⊎◌, inl, inr, ap, ℕ, ◌<◌, true, arith}
use Rattle.stm_core.specs.Client.{Client, IsFree, is_committed}
use Rattle.stm_region.specs.Findings.{IsLoneOpen}
use Rattle.stm_attempt.specs.Conflicts.{SaysHeld}
use Rattle.stm_attempt.specs.CommitParts.{IsAbove}
use Rattle.stm_core.proofs.Conditions.{IsReading}
use Rattle.stm_core.specs.Guards.{Holds}

-- an attempt that reads is not decided
pub open_reading : (v : Client) → v.attempt.lone ≡ true → IsReading v.attempt → IsLoneOpen v
open_reading v lone reading = (lone, ap is_committed reading.0)

-- a lock word is not held that is free, or the client's own below this lock
pub none_held : {A : Type 0} (v : Client) (lock word : ℕ) → IsAbove v lock → IsFree word ⊎ Holds v.attempt.held lock →
    SaysHeld word → A
none_held v lock word above (inl free) held = absurd (omega (arith, free, held))
none_held v lock word above (inr own) held = let below : lock < lock = above lock own.0 own.1 in
    absurd (omega (arith, below))
