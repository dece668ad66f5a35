use Rattle.std.proofs.Common.{◌≡◌, map, take}
use Rattle.std.specs.List.{filter_map}
use Rattle.judge_reservations.specs.Lines.{numbered, line_part}
use Rattle.judge_reservations.proofs.history.part_of_history.Given as goal

-- the parts of the lines so far
abbrev pub invariant-lines : goal.invariant-lines
invariant-lines l = map numbered l.part.items ≡ filter_map (line_part l.scope) (take l.at l.lines)
