-- Decided records in the order of their point steps.
use Rattle.std.specs.Prelude.{ℕ, ◌+◌, cond, ltb, List, [], ◌∷◌}
use Rattle.std.specs.List.{list_all, insert}
use Rattle.stm_replay.specs.declared.event.Entry.{Entry}

-- the entries of the decided records, and the position of each record's point step in the list of
-- events
pub record Placed : Type 0 where
  pub entries : List Entry
  pub points : List ℕ

-- the number of points up to and including the last point that is not later than p; 0 if all
-- points are later
abbrev pub place_among : List ℕ → ℕ → ℕ
place_among [] p = 0
place_among (x ∷ xs) p = cond (list_all (ltb p) (x ∷ xs)) 0 (place_among xs p + 1)

-- the order with one more record, put in after the last record whose point is not later
abbrev pub put_in : Entry → ℕ → Placed → Placed
put_in entry point o =
    let place = place_among o.points point in
    record { entries = insert o.entries place entry; points = insert o.points place point }
