-- The figures of a log of calls that tell how far its calls overlapped. A call runs from its BEGIN
-- on until its END. At its END it no longer runs, so calls that only touch do not overlap.
use Rattle.std.specs.Prelude.{ℕ, ◌+◌, ◌==◌, ◌&&◌, not, max, Bool, List, [], ◌∷◌, length, map, nat_lt}
use Rattle.std.specs.List.{count_by}
use Rattle.std.specs.Set.{distinct_count}
use Rattle.judge_object.specs.declared.span.Span.{Span}
use Rattle.judge_object.specs.declared.span.TheConstants.{NEVER}
use Rattle.judge_coverage.specs.declared.coverage.Coverage.{Coverage}

-- the call runs at a moment: it began then or before, and ends later
abbrev pub runs_at : ℕ → Span → Bool
runs_at moment call = not (nat_lt moment call.begin) && nat_lt moment call.end

-- the other call is a call of another client, and runs when the call begins
abbrev pub meets : Span → Span → Bool
meets call other = not (other.client == call.client) && runs_at call.begin other

-- the number of calls of other clients that run when a call begins
abbrev pub met_by : List Span → Span → ℕ
met_by calls call = count_by (meets call) calls

-- the call began while a call of another client ran
abbrev pub began_beside : List Span → Span → Bool
began_beside calls call = nat_lt 0 (met_by calls call)

-- the greatest value of a function on a list, 0 for no element
abbrev pub greatest : {A : Type 0} → (A → ℕ) → List A → ℕ
greatest f [] = 0
greatest f (x ∷ xs) = max (f x) (greatest f xs)

-- the number of calls that began while a call of another client ran
abbrev pub overlapped_in : List Span → ℕ
overlapped_in calls = count_by (began_beside calls) calls

-- the greatest number of calls that ran at one moment: when a call began, that call and the calls
-- of other clients that ran then
abbrev pub most_at_once_in : List Span → ℕ
most_at_once_in calls = greatest (λ call. met_by calls call + 1) calls

-- the call never ended
abbrev pub is_pending : Span → Bool
is_pending call = not (nat_lt call.end NEVER)

-- the number of calls that never ended
abbrev pub pending_in : List Span → ℕ
pending_in calls = count_by is_pending calls

-- the number of clients that made these calls
abbrev pub clients_in : List Span → ℕ
clients_in calls = distinct_count (λ a b. a == b) (map (λ call. call.client) calls)

-- the figures of these calls
abbrev pub coverage_of : List Span → Coverage
coverage_of calls = record {
  calls = length calls;
  clients = clients_in calls;
  pending = pending_in calls;
  overlapped = overlapped_in calls;
  most_at_once = most_at_once_in calls;
}
