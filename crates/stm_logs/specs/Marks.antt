-- The marks of addresses.
use Rattle.std.specs.Prelude.{ℕ, ◌%◌, Bool, false, slice_index_or}
use Rattle.stm_logs.specs.declared.marks.TheConstants.{MARKS}
use Rattle.stm_logs.specs.declared.marks.Marks.{Marks}

-- true if the address is marked: its remainder has a mark
abbrev pub is_marked : Marks → ℕ → Bool
is_marked m address = slice_index_or m.marks (address % MARKS) false
