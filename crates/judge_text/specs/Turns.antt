-- Clients whose calls are in turn.
use Rattle.std.specs.Prelude.{◌≡◌, ◌≢◌, ◌<◌, ◌&&◌, ◌==◌, ℕ, Bool, true, false, Option, Some, None, List, nat_lt, length, take, get_or}
use Rattle.std.specs.List.{list_any}
use Rattle.std.specs.Ordering.{nat_cmp}
use Rattle.std.specs.FinMap.{FinMap, get}
use Rattle.judge_object.specs.Order as spans
use Rattle.judge_object.specs.Call.{Call, span_of, EachCall}
use Rattle.judge_object.specs.Relaxed.{PendingAreLast}
use Rattle.judge_search.specs.Walk.{IsWhole}
use Rattle.judge_text.specs.declared.turns.Standing.{Standing}
use Rattle.judge_text.specs.declared.turns.Standing.TheVariants.{Breaks, Touches, Follows}
use Rattle.judge_text.specs.declared.turns.Turns.{Turns}
use Rattle.judge_text.specs.declared.turns.Turns.TheVariants.{Broken, Held}
use Rattle.judge_text.specs.Many.{IsApart, AreStrict}

-- a call had not ended when another began
abbrev pub began_before : Option ℕ → ℕ → Bool
began_before None begin = false
began_before (Some end) begin = nat_lt begin end

module _ {O : Type 0} where
  -- the call ends before it begins, or overlaps an earlier one of its client
  abbrev pub call_breaks_client : List (Call O) → Call O → Bool
  call_breaks_client earlier call = spans.breaks_client span_of earlier call

  -- both calls are of one client, and the later one began before the earlier one had ended
  abbrev pub calls_overlap : Call O → Call O → Bool
  calls_overlap call earlier = earlier.client == call.client && nat_lt call.begin earlier.end

  -- the last end of each client shows whether a call overlaps an earlier one
  abbrev pub KeepsEnds : FinMap nat_cmp ℕ → List (Call O) → Type 0
  KeepsEnds ends calls = (call : Call O) →
      list_any (calls_overlap call) calls ≡ began_before (get ends call.client) call.begin

  -- and that a client has none shows that it made no call
  abbrev pub KnowsClients : FinMap nat_cmp ℕ → List (Call O) → Type 0
  KnowsClients ends calls = (client : ℕ) → get ends client ≡ None →
      EachCall (λ call. call.client ≢ client) calls

  -- that a client has an end shows that a call of its own ended then
  abbrev pub KnowsEnds : FinMap nat_cmp ℕ → List (Call O) → Type 0
  KnowsEnds ends calls = (client last : ℕ) → get ends client ≡ Some last →
      EachCall (λ call. call.client ≡ client → call.end ≢ last) calls → ⊥

  -- how a call stands after earlier ones
  abbrev pub Stands : List (Call O) → Call O → Standing → Type 0
  Stands calls call Breaks = call_breaks_client calls call ≡ true
  Stands calls call Touches =
      (call_breaks_client calls call ≡ false) × (EachCall (IsApart call) calls → ⊥)
  Stands calls call Follows =
      (call_breaks_client calls call ≡ false) × EachCall (IsApart call) calls

  -- the call at this place is the first that is not in turn: it ends before it begins, or begins
  -- before an earlier one of its client has ended
  pub record IsFirstOutOfTurn (calls : List (Call O)) (place : ℕ) : Type 0 where
    pub within : place < length calls
    pub before : IsWhole (take place calls)
    pub breaks : (d : Call O) → call_breaks_client (take place calls) (get_or calls place d) ≡ true

  -- how the calls of all clients stand
  abbrev pub AreTurns : List (Call O) → Turns → Type 0
  AreTurns calls (Broken place) = IsFirstOutOfTurn calls place
  AreTurns calls (Held strict) =
      IsWhole calls × (strict ≡ true → AreStrict calls) × (strict ≡ false → AreStrict calls → ⊥)
      × PendingAreLast calls
