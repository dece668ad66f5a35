-- The values of the logs of a transaction.
use Rattle.std.specs.Prelude.{◌≡◌, ℕ, ◌%◌, Bool, false, List, Option, Some, None, filter, map, nat_eq}
use Rattle.std.specs.List.{flat_map}
use Rattle.std.specs.Ordering.{nat_cmp}
use Rattle.std.specs.FinMap.{FinMap, empty, get, entries, keys, from_entries}
use Rattle.std.specs.Coded.{Coded, code_by, coded×, coded_ℕ}
use Rattle.std.specs.FinMap as finite
use Rattle.std.proofs.Common.{refl}
use Rattle.tx_memory.specs.View.{Words}

-- the value of a write log: for each written address its value, and the number of its lock
pub record LogValue : Type 0 where
  pub words : Words
  pub locks : Words

-- the encoding of a log by its two maps
abbrev pub log_code : Coded LogValue
log_code =
    code_by (Words × Words) (coded× (finite.code coded_ℕ coded_ℕ) (finite.code coded_ℕ coded_ℕ))
    (λ w. (w.words, w.locks)) (λ p. record { words = p.0; locks = p.1 }) (λ _. refl)

-- the log without writes
abbrev pub empty_log : LogValue
empty_log = record { words = empty; locks = empty }

-- the written addresses with their values, by ascending address
abbrev pub log_pairs : LogValue → List (ℕ × ℕ)
log_pairs w = entries w.words

-- a map from each lock of the written addresses to one of its addresses
abbrev pub lock_map : LogValue → FinMap nat_cmp ℕ
lock_map w = from_entries (map (λ p. (p.1, p.0)) (entries w.locks))

-- the locks of the written addresses in ascending order, each once
abbrev pub log_locks : LogValue → List ℕ
log_locks w = keys (lock_map w)

-- true if there is a lock number, and it is this one
abbrev pub is_number : Option ℕ → ℕ → Bool
is_number None lock = false
is_number (Some k) lock = nat_eq k lock

-- the written addresses of one lock with their values, by ascending address
abbrev pub pairs_of : LogValue → ℕ → List (ℕ × ℕ)
pairs_of w lock = filter (λ p. is_number (get w.locks p.0) lock) (log_pairs w)

-- the written addresses with their values, by ascending lock; the addresses of one lock ascend
abbrev pub pairs_by_lock : LogValue → List (ℕ × ℕ)
pairs_by_lock w = flat_map (pairs_of w) (log_locks w)

-- the addresses with a value are the addresses with a lock
abbrev pub SameAddresses : LogValue → Type 0
SameAddresses w = (a : ℕ)
    → (get w.words a ≡ None → get w.locks a ≡ None) × (get w.locks a ≡ None → get w.words a ≡ None)

-- the lock of each address is the address modulo the number of stripes
abbrev pub IsStriped : LogValue → ℕ → Type 0
IsStriped w stripes = (a lock : ℕ) → get w.locks a ≡ Some lock → lock ≡ a % stripes
