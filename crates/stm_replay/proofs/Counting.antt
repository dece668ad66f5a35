-- The events that the running core plays: those that may happen and have their number.
use Rattle.std.proofs.Common.{◌≡◌, ℕ, ◌<◌, true, nat_lt, length, refl}
use Rattle.stm_core.specs.Core.{Core, Event, acts, splits, gathers, renews, may_play}
use Rattle.stm_core.proofs.Conditions.{Decides, and2, bool_test, lt_test}
use Rattle.stm_replay.specs.Running.{may_run, has_number}
use Rattle.stm_replay.specs.declared.limits.TheConstants.{MOST_CLIENTS}

pub run_test : (lk : ℕ → ℕ) (e : Event) (c : Core) → Decides (may_run lk e c)
    ((may_play lk e c ≡ true) × (has_number e c ≡ true))
run_test lk (splits k) c = and2 (bool_test (may_play lk (splits k) c))
    (bool_test (nat_lt (length c.clients) MOST_CLIENTS))
run_test lk (acts k e) c = record { sound = λ h. (h, refl); complete = λ h. h.0 }
run_test lk (gathers k j) c = record { sound = λ h. (h, refl); complete = λ h. h.0 }
run_test lk (renews k last) c = record { sound = λ h. (h, refl); complete = λ h. h.0 }

-- a split has its number if there are fewer clients than numbers
pub numbered_split : (c : Core) (k : ℕ) → length c.clients < MOST_CLIENTS → has_number (splits k) c ≡ true
numbered_split c k l = (lt_test (length c.clients) MOST_CLIENTS).complete l
