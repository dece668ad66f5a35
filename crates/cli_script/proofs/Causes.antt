-- Why a call of a client that is alone was not made.
use Rattle.std.proofs.Common.{◌≡◌, ℕ, ◌+◌, ◌≤◌, Err, refl, arith}
use Rattle.vac_manager.specs.declared.fault.Fault.{Fault}
use Rattle.vac_manager.specs.declared.fault.Fault.TheVariants as fault
use Rattle.vac_manager.specs.Called.{IsNext}

-- it asks in range, meets no conflict, and finds a clock with versions left: memory was refused
pub only_memory : (last before now : ℕ) (f : Fault) → (f ≡ fault.Arguments → ⊥) → before + 1 ≤ last →
    IsNext last before now (Err f) → f ≡ fault.Memory
only_memory last before now fault.Arguments a s n = absurd (a refl)
only_memory last before now fault.Memory a s n = refl
only_memory last before now (fault.Busy conflict) a s n = absurd n
only_memory last before now (fault.Spent version) a s n = absurd (let e : before ≡ last = n in omega (arith, s, e))
