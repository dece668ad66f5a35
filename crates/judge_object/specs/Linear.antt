-- Linearizations: orders of calls that a sequential object allows and that keep the precedence of
-- the calls (Herlihy and Wing, TOPLAS 1990). A pending call ends later than all times, and takes
-- effect at its position in the order.
use Rattle.std.specs.Prelude.{⊤, ℕ, List, [], ◌∷◌}
use Rattle.judge_object.specs.Laws as spans
use Rattle.judge_object.specs.Rules.{Rules, IsAnswerOf}
use Rattle.judge_object.specs.Call.{Call, span_of}

module _ {O : Type 0} where
  -- the call is at this position of the order
  abbrev pub IsCallAt : List (Call O) → ℕ → Call O → Type 0
  IsCallAt calls place call = spans.IsAt calls place call

  -- no call ends before it begins
  abbrev pub CallsTakeTime : List (Call O) → Type 0
  CallsTakeTime calls = spans.TakeTime span_of calls

  -- the calls of each client do not overlap, and are in their order
  abbrev pub CallsAreSequential : List (Call O) → Type 0
  CallsAreSequential calls = spans.AreSequential span_of calls

  -- a call that had ended before another began comes before it
  abbrev pub CallsKeepPrecedence : List (Call O) → Type 0
  CallsKeepPrecedence calls = spans.KeepPrecedence span_of calls

module _ {S O R : Type 0} (X : Rules S O R) where
  -- run one after the other from a state, the calls give their replies
  abbrev pub GiveReplies : S → List (Call O) → Type 0
  GiveReplies s [] = ⊤
  GiveReplies s (call ∷ rest) =
      IsAnswerOf X (X.run s call.op).1 call.reply × GiveReplies (X.run s call.op).0 rest

  -- the state after the calls, run one after the other
  abbrev pub state_after : S → List (Call O) → S
  state_after s [] = s
  state_after s (call ∷ rest) = state_after (X.run s call.op).0 rest

  -- the order in which the calls are given is a linearization of them, from this state on
  pub record IsLinearization (s : S) (calls : List (Call O)) : Type 0 where
    pub replies : GiveReplies s calls
    pub times : CallsTakeTime calls
    pub clients : CallsAreSequential calls
    pub precedence : CallsKeepPrecedence calls
