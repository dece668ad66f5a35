-- When something does not fit what comes before it in an order, where the span of each is known.
-- Earlier ones are listed from the newest on.
use Rattle.std.specs.Prelude.{ℕ, ◌+◌, ◌==◌, ◌&&◌, ◌||◌, Bool, Option, Some, None, List, [], ◌∷◌, nat_lt, if◌then◌else◌}
use Rattle.std.specs.List.{list_any}
use Rattle.judge_object.specs.declared.span.Span.{Span}
use Rattle.judge_object.specs.declared.span.Misplaced.{Misplaced}
use Rattle.judge_object.specs.declared.span.Misplaced.TheVariants.{Client, Time}

-- the span of a span
abbrev pub itself : Span → Span
itself s = s

-- both are of one client
abbrev pub same_client : {C : Type 0} → (C → Span) → C → C → Bool
same_client span x earlier = (span earlier).client == (span x).client

-- it began before an earlier one of its client had ended
abbrev pub overlaps : {C : Type 0} → (C → Span) → C → C → Bool
overlaps span x earlier = same_client span x earlier && nat_lt (span x).begin (span earlier).end

-- it had ended before an earlier one in the order began
abbrev pub ended_before : {C : Type 0} → (C → Span) → C → C → Bool
ended_before span x earlier = nat_lt (span x).end (span earlier).begin

-- it ends before it begins, or overlaps an earlier one of its client
abbrev pub breaks_client : {C : Type 0} → (C → Span) → List C → C → Bool
breaks_client span earlier x =
    nat_lt (span x).end (span x).begin || list_any (overlaps span x) earlier

-- it comes after one that began only after it had ended
abbrev pub breaks_time : {C : Type 0} → (C → Span) → List C → C → Bool
breaks_time span earlier x = list_any (ended_before span x) earlier

-- the first thing that is wrong with its place after these
abbrev pub misplaced : {C : Type 0} → (C → Span) → List C → C → Option Misplaced
misplaced span earlier x =
    if breaks_client span earlier x then Some Client
    else if breaks_time span earlier x then Some Time
    else None

-- how many clients have these spans
abbrev pub clients_of : {C : Type 0} → (C → Span) → List C → ℕ
clients_of span [] = 0
clients_of span (x ∷ earlier) =
    if list_any (same_client span x) earlier then clients_of span earlier
    else clients_of span earlier + 1
