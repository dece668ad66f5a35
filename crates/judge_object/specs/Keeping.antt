-- The state that a judge keeps of the spans so far. Spans are listed from the newest on.
use Rattle.std.specs.Prelude.{◌≡◌, ⊤, ℕ, ◌==◌, ◌≤◌, max, Option, Some, None, List, [], ◌∷◌, length, if◌then◌else◌}
use Rattle.std.specs.FinMap.{get, len}
use Rattle.judge_object.specs.declared.span.Span.{Span}
use Rattle.judge_object.specs.declared.spans.Spans.{Spans}
use Rattle.judge_object.specs.Order.{itself, clients_of}

-- the END of a client's newest span
abbrev pub end_of : List Span → ℕ → Option ℕ
end_of [] client = None
end_of (span ∷ earlier) client =
    if span.client == client then Some span.end else end_of earlier client

-- the greatest BEGIN
abbrev pub latest_of : List Span → ℕ
latest_of [] = 0
latest_of (span ∷ earlier) = max (latest_of earlier) span.begin

-- an earlier span of the same client had ended when a span began
abbrev pub IsSpanBehind : Span → Span → Type 0
IsSpanBehind span earlier = earlier.client ≡ span.client → earlier.end ≤ span.begin

-- a fact of each span
abbrev pub EachSpan : (Span → Type 0) → List Span → Type 0
EachSpan P [] = ⊤
EachSpan P (span ∷ earlier) = P span × EachSpan P earlier

-- the spans of each client are in their order
abbrev pub SpansAreInTurn : List Span → Type 0
SpansAreInTurn [] = ⊤
SpansAreInTurn (span ∷ earlier) =
    (span.begin ≤ span.end) × EachSpan (IsSpanBehind span) earlier × SpansAreInTurn earlier

-- what is kept of earlier spans: the end of each client's newest, the greatest begin, and how many
-- there are
pub record Keeps (spans : Spans) (earlier : List Span) : Type 0 where
  pub ends_are : (client : ℕ) → get spans.ends client ≡ end_of earlier client
  pub clients : len spans.ends ≡ clients_of itself earlier
  pub latest_is : spans.latest ≡ latest_of earlier
  pub count_is : spans.count ≡ length earlier
  pub turns : SpansAreInTurn earlier
