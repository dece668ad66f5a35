-- The states that the words of plain memory represent.
use Rattle.std.specs.Prelude.{ℕ, List, length, slice_index}
use Rattle.vac_model.specs.State.{State}
use Rattle.vac_records.specs.Represents.{IsState}

-- the words represent this balanced state
abbrev pub IsStateOf : List ℕ → State → Type 0
IsStateOf words s = IsState (slice_index words) (length words) s
