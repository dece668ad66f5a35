-- How conflicts are counted.
use Rattle.std.proofs.Common.{◌≡◌, ◌+◌, List, [], ◌∷◌, refl, arith}
use Rattle.stm_attempt.specs.declared.conflict.Conflict.{Conflict}
use Rattle.stm_attempt.specs.declared.conflict.Conflict.TheVariants.{Held, Newer, Moved, LostLock, LostTick}
use Rattle.vac_manager.specs.declared.placed.CallStatistics.{CallStatistics}
use Rattle.vac_manager.specs.declared.sites.WordKind.{WordKind}
use Rattle.vac_manager.specs.declared.sites.WordKind.TheVariants.{Root, Head, Node, Use, Stock}
use Rattle.vac_manager.specs.Sites.{word_kind_of}
use Rattle.vac_manager.specs.Placed.{one_more_over, conflicted, conflicts_of, locks_of, statistics_of}

-- what a count by the word of a lock changes
record IsOver (e o : CallStatistics) : Type 0 where
  pub attempts : o.attempts ≡ e.attempts
  pub kinds : conflicts_of o ≡ conflicts_of e
  pub ticks : o.lost_tick ≡ e.lost_tick
  pub locks : locks_of o ≡ locks_of e + 1

counted_over : (s : WordKind) (e : CallStatistics) → IsOver e (one_more_over s e)
counted_over Root e = record { attempts = refl; kinds = refl; ticks = refl; locks = omega arith }
counted_over Head e = record { attempts = refl; kinds = refl; ticks = refl; locks = omega arith }
counted_over Node e = record { attempts = refl; kinds = refl; ticks = refl; locks = omega arith }
counted_over Use e = record { attempts = refl; kinds = refl; ticks = refl; locks = omega arith }
counted_over Stock e = record { attempts = refl; kinds = refl; ticks = refl; locks = omega arith }

-- what a conflict more changes
pub record IsOneMore (e o : CallStatistics) : Type 0 where
  pub attempts : o.attempts ≡ e.attempts + 1
  pub kinds : conflicts_of o ≡ conflicts_of e + 1
  pub locks : locks_of o + o.lost_tick ≡ locks_of e + e.lost_tick + 1

pub one_conflict : (c : Conflict) (e : CallStatistics) → IsOneMore e (conflicted c e)
one_conflict (Held lock word) e =
    let k = counted_over (word_kind_of lock) (record e { attempts = e.attempts + 1; held = e.held + 1 }) in
    record { attempts = k.attempts; kinds = omega (arith, k.kinds); locks = omega (arith, k.locks, k.ticks) }
one_conflict (Newer lock version rv) e =
    let k = counted_over (word_kind_of lock) (record e { attempts = e.attempts + 1; newer = e.newer + 1 }) in
    record { attempts = k.attempts; kinds = omega (arith, k.kinds); locks = omega (arith, k.locks, k.ticks) }
one_conflict (Moved lock first second) e =
    let k = counted_over (word_kind_of lock) (record e { attempts = e.attempts + 1; moved = e.moved + 1 }) in
    record { attempts = k.attempts; kinds = omega (arith, k.kinds); locks = omega (arith, k.locks, k.ticks) }
one_conflict (LostLock lock found) e =
    let k = counted_over (word_kind_of lock) (record e { attempts = e.attempts + 1; lost_lock = e.lost_lock + 1 }) in
    record { attempts = k.attempts; kinds = omega (arith, k.kinds); locks = omega (arith, k.locks, k.ticks) }
one_conflict (LostTick found) e = record { attempts = refl; kinds = omega arith; locks = omega arith }

-- each attempt of these ended in a conflict
pub each_counted : (cs : List Conflict) → (statistics_of cs).attempts ≡ conflicts_of (statistics_of cs)
each_counted [] = refl
each_counted (c ∷ cs) = let k = one_conflict c (statistics_of cs) in let e = each_counted cs in
    omega (arith, k.attempts, k.kinds, e)

-- and each of these conflicts but the lost ticks is over a lock
pub each_located : (cs : List Conflict) → locks_of (statistics_of cs) + (statistics_of cs).lost_tick ≡ conflicts_of
    (statistics_of cs)
each_located [] = refl
each_located (c ∷ cs) = let k = one_conflict c (statistics_of cs) in let e = each_located cs in
    omega (arith, k.locks, k.kinds, e)
