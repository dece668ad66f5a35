-- The reads and writes of a memory, from its accesses.
use Rattle.std.specs.Prelude.{◌≡◌, ℕ, Bool, true, ◌&&◌, eqb, List, [], ◌∷◌}
use Rattle.std.specs.Prelude.{Option, Some, None, is_none, if◌then◌else◌}
use Rattle.std.specs.FinMap.{get, insert, empty}
use Rattle.tx_memory.specs.View.{Words}
use Rattle.tx_memory.specs.declared.access.Access.{Access}
use Rattle.tx_memory.specs.declared.access.Access.TheVariants.{Read, Write}

-- the reads with one more of this value at this address, unless the word was written before
abbrev pub reads_with : Words → Words → ℕ → ℕ → Words
reads_with reads writes address value =
    if is_none (get writes address) then insert reads address value else reads

-- the reads after these accesses, from these reads and writes on: a word that was written before
-- is not read
abbrev pub reads_behind : Words → Words → List Access → Words
reads_behind reads writes [] = reads
reads_behind reads writes (Read addr value ∷ more) =
    reads_behind (reads_with reads writes addr.0 value) writes more
reads_behind reads writes (Write addr value ∷ more) =
    reads_behind reads (insert writes addr.0 value) more

-- the writes after these accesses, from these writes on: the last value of each word
abbrev pub writes_behind : Words → List Access → Words
writes_behind writes [] = writes
writes_behind writes (Read addr value ∷ more) = writes_behind writes more
writes_behind writes (Write addr value ∷ more) = writes_behind (insert writes addr.0 value) more

-- true if a read of a word has its value: the last write of the word if there is one, else its
-- value in an earlier read if there is one
abbrev pub is_right_read : Option ℕ → Option ℕ → ℕ → Bool
is_right_read (Some own) read value = eqb value own
is_right_read None (Some read) value = eqb value read
is_right_read None None value = true

-- true if each read has the last value written to its word before it, or, if none was written, the
-- value of an earlier read
abbrev pub are_right : Words → Words → List Access → Bool
are_right reads writes [] = true
are_right reads writes (Read addr value ∷ more) =
    is_right_read (get writes addr.0) (get reads addr.0) value
    && are_right (reads_with reads writes addr.0 value) writes more
are_right reads writes (Write addr value ∷ more) =
    are_right reads (insert writes addr.0 value) more

-- the accesses are those of a memory with these reads and writes. The reads are the values read of
-- words before they were written, the writes are the last values written, and each read has its
-- value
abbrev pub AreOf : List Access → Words → Words → Type 0
AreOf accesses reads writes =
    (reads ≡ reads_behind empty empty accesses)
    × (writes ≡ writes_behind empty accesses)
    × (are_right empty empty accesses ≡ true)

-- the recorded accesses, if there was room for all of them, are those of a memory with these reads
-- and writes
-- Not said: how often a read was seen. Seen twice, it leaves the same.
abbrev pub IsTracked : Option (List Access) → Words → Words → Type 0
IsTracked seen reads writes =
    (accesses : List Access) → seen ≡ Some accesses → AreOf accesses reads writes
