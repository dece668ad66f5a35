-- Lines in the order of their attempts.
use Rattle.std.proofs.Common.{◌≡◌, ◌∙◌, ◌+◌, ap, arith, List, [], ◌∷◌, length, get_or, map}
use Rattle.std.proofs.lemmas.List.{get_or-map, length-map}
use Rattle.std.specs.List.Sorted.{IsSortedBy}
use Rattle.std.specs.Ordering.{is_lt}
use Rattle.load_record.specs.declared.lines.Line.{Line}
use Rattle.load_record.specs.Lines.{AttemptEntry, line_entry}
use Rattle.load_record.specs.AttemptOrder.{compare, EntriesAreOrdered}

-- the order of lines
abbrev pub IsLineOrder : List Line → Type 0
IsLineOrder lines = IsSortedBy (λ x y. is_lt (compare x.attempt.now y.attempt.now)) lines

pub in_order : (lines : List Line) → IsLineOrder lines → EntriesAreOrdered (map line_entry lines)
in_order [] sorted k d first low = absurd (omega (arith, low))
in_order (l ∷ lines) sorted k d first low =
    let long : length (map line_entry (l ∷ lines)) ≡ length (l ∷ lines) = length-map (l ∷ lines) line_entry in
    let later : get_or (map line_entry (l ∷ lines)) (k + 1) d ≡ line_entry (get_or (l ∷ lines) (k + 1) l) =
    get_or-map line_entry (l ∷ lines) (k + 1) l d (omega (arith, low, long)) in
    let earlier : get_or (map line_entry (l ∷ lines)) k d ≡ line_entry (get_or (l ∷ lines) k l) =
    get_or-map line_entry (l ∷ lines) k l d (omega (arith, low, long)) in
    ap (λ (e : AttemptEntry). is_lt (compare e.attempt (get_or (map line_entry (l ∷ lines)) k d).attempt)) later
    ∙ ap (λ (e : AttemptEntry). is_lt (compare (line_entry (get_or (l ∷ lines) (k + 1) l)).attempt e.attempt)) earlier
    ∙ sorted k l first (omega (arith, low, long))
