-- The times of a client's calls.
use Rattle.std.specs.Prelude.{◌≤◌, ℕ, List}
use Rattle.std.specs.List.{All, AllPairs}
use Rattle.vac_manager.specs.declared.note.CompletedCall.{CompletedCall}
use Rattle.load_record.specs.Order.{list_at}

-- no call ends before it begins
abbrev pub NotesTakeTime : List CompletedCall → Type 0
NotesTakeTime notes = All (λ n. n.begin ≤ n.end) notes

-- each call begins no earlier than all calls before it ended
abbrev pub AreInTurn : List CompletedCall → Type 0
AreInTurn notes = AllPairs (λ earlier later. earlier.end ≤ later.begin) notes

-- for each client, no call ends before it begins, and each call begins no earlier than all calls
-- before it ended
abbrev pub EachInTurn : List (List CompletedCall) → Type 0
EachInTurn kept = (place : ℕ) → NotesTakeTime (list_at kept place) × AreInTurn (list_at kept place)
