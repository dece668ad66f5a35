-- The notes of a walk, as lists.
use Rattle.std.specs.Prelude.{ℕ, ◌+◌, ◌<◌, ◌^◌, List, map, length, slice_index, Option, Some, None}
use Rattle.std.specs.List.{All}
use Rattle.tx_alloc.specs.Rows.{Rows}
use Rattle.vac_bookings.specs.Bookings.{code_of}
use Rattle.vac_bookings.specs.declared.key.Key.{Key}
use Rattle.vac_audit.specs.declared.notes.NotedItem.{NotedItem}

-- the keys of these items
abbrev pub keys_in : List NotedItem → List Key
keys_in items = map (λ item. item.key) items

-- the blocks of these items
abbrev pub blocks_in : List NotedItem → List ℕ
blocks_in items = map (λ item. item.block) items

-- the number of units that were found booked of each of these items
abbrev pub booked_in : List NotedItem → List ℕ
booked_in items = map (λ item. item.booked) items

-- the keys of these items, as one number each
abbrev pub codes_in : List NotedItem → List ℕ
codes_in items = map code_of (keys_in items)

-- the numbers rise
abbrev pub AreRising : List ℕ → Type 0
AreRising xs =
    (i j : ℕ) → i < j → j < length xs → slice_index xs i < slice_index xs j

-- the items are in the order of their keys. Ids are below 2 ^ 32, so that keys are ordered like
-- their numbers
pub record InOrder (items : List NotedItem) : Type 0 where
  pub rising : AreRising (codes_in items)
  pub ids : All (λ key. key.id < 2 ^ 32) (keys_in items)

-- the id of the last key, if there is one, is below 2 ^ 32
abbrev pub HasShortId : Option Key → Type 0
HasShortId None = Unit {0}
HasShortId (Some key) = key.id < 2 ^ 32

-- the least number that a key after the last one may have
abbrev pub least_next : Option Key → ℕ
least_next None = 0
least_next (Some key) = code_of key + 1

-- the notes on these rows of a table of items
abbrev pub noted_of : ℕ → Rows → List NotedItem
noted_of kind rows =
    map (λ row. record { key = record { kind = kind; id = row.0 }; block = row.1; booked = 0 }) rows
