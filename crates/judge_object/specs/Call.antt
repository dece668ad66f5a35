-- A call of a client.
use Rattle.std.specs.Prelude.{◌≡◌, ◌≤◌, ⊤, ℕ, Bool, Option, List, [], ◌∷◌, nat_lt}
use Rattle.judge_object.specs.declared.span.Span.{Span}
use Rattle.judge_object.specs.declared.span.TheConstants.{NEVER}

-- a call of a client: readings of the clock before the call began and after it returned, its
-- operation and the text of its reply. A pending call ends later than all readings. Its reply may
-- be known all the same: then the call gave this reply, or never took effect
pub record Call (O : Type 0) : Type 0 where
  pub client : ℕ
  pub begin : ℕ
  pub end : ℕ
  pub op : O
  pub reply : Option (List ℕ)

module _ {O : Type 0} where
  -- the interval of a call, with its client
  abbrev pub span_of : Call O → Span
  span_of call = record { client = call.client; begin = call.begin; end = call.end }

  -- an earlier call of the same client had ended when a call began
  abbrev pub IsBehind : Call O → Call O → Type 0
  IsBehind call earlier = earlier.client ≡ call.client → earlier.end ≤ call.begin

  -- a fact of each call
  abbrev pub EachCall : (Call O → Type 0) → List (Call O) → Type 0
  EachCall P [] = ⊤
  EachCall P (call ∷ earlier) = P call × EachCall P earlier

  -- the call is completed: it ended at a reading of the clock
  abbrev pub is_completed : Call O → Bool
  is_completed call = nat_lt call.end NEVER
