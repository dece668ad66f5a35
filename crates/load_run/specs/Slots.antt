-- The state that clients keep from round to round, as contracts see it.
use Rattle.std.specs.Prelude.{List, map}
use Rattle.load_run.specs.Keeping.{RecorderContents}
use Rattle.load_run.specs.declared.slots.Slot.{Slot}

-- a client slot as contracts see it: the state of its draws, and the contents of its recorder
pub record SlotShown (D : Type 0) : Type 0 where
  pub draws : D
  pub kept : RecorderContents

-- the slot, as contracts see it
abbrev pub shown : {D G K : Type 0} → (K → RecorderContents) → Slot D G K → SlotShown D
shown notes slot = record { draws = slot.draws; kept = notes slot.keep }

-- the contents of the recorders of these slots, in the order of the slots
abbrev pub kept_at : {D G K : Type 0} → (K → RecorderContents) → List (Slot D G K)
    → List RecorderContents
kept_at notes slots = map (λ slot. notes slot.keep) slots
