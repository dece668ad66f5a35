-- The remaining calls of the clients, as lists, and the call that is written next.
use Rattle.std.specs.Prelude.{◌≡◌, ◌<◌, ℕ, false, Option, Some, None, List, [], ◌∷◌, map}
use Rattle.std.specs.Borrow.{Bor}
use Rattle.vac_manager.specs.declared.note.CompletedCall.{CompletedCall}
use Rattle.load_record.specs.declared.merging.RemainingCalls.{RemainingCalls}
use Rattle.load_record.specs.declared.merging.NextCall.{NextCall}
use Rattle.load_record.specs.Order.{Entry, entries_of, list_at, precedes}

-- the remaining calls of each client
abbrev pub left_of : List RemainingCalls → List (List Entry)
left_of rests = map (λ r. entries_of r.client r.notes.now) rests

-- the entry of a call that was picked
abbrev pub picked_entry : NextCall → Entry
picked_entry picked = record { client = picked.client; note = picked.note.now }

-- the list at this position begins with this call
abbrev pub BeginsWith : List (List Entry) → ℕ → CompletedCall → Type 0
BeginsWith lists place n =
    (first : Entry) × (more : List Entry) × (list_at lists place ≡ first ∷ more)
    × (first.note ≡ n)

-- none of the first `many` lists begins with a call that precedes this one
abbrev pub IsLeast : List (List Entry) → ℕ → CompletedCall → Type 0
IsLeast lists many n =
    (place : ℕ) (m : CompletedCall) → place < many → BeginsWith lists place m → precedes m n ≡ false

-- the first `many` lists are empty if the option is None; otherwise the list at the given position
-- begins with the given call, and none of the first `many` lists begins with a call that precedes
-- it
abbrev pub IsBest : List (List Entry) → ℕ → Option (ℕ × Bor CompletedCall) → Type 0
IsBest lists many None = (place : ℕ) → place < many → list_at lists place ≡ []
IsBest lists many (Some best) =
    (best.0 < many) × BeginsWith lists best.0 best.1.now × IsLeast lists many best.1.now
