-- Configurations of a search for an order, and the calls that may come next.
use Rattle.std.specs.Prelude.{◌≡◌, ◌+◌, ◌≤◌, ◌==◌, ℕ, Bool, true, List, [], ◌∷◌, if◌then◌else◌}
use Rattle.judge_object.specs.Rules.{Rules, is_right}
use Rattle.judge_object.specs.Call.{Call, EachCall, is_completed}
use Rattle.judge_object.specs.Orders.{of_client}

-- the calls that have no place in the order yet, and the state that those with a place leave
pub record Configuration (S O : Type 0) : Type 0 where
  pub rest : List (Call O)
  pub state : S

module _ {S O : Type 0} where
  -- the start: all calls are left
  abbrev pub start : S → List (Call O) → Configuration S O
  start s calls = record { rest = calls; state = s }

module _ {O : Type 0} where
  -- this call is the first of its client
  pub record IsFirst (rest : List (Call O)) (call : Call O) : Type 0 where
    pub tail : List (Call O)
    pub is : of_client call.client rest ≡ call ∷ tail

  -- this call may come next: it is its client's first, and began before any that is left had ended
  pub record MayBegin (rest : List (Call O)) (call : Call O) : Type 0 where
    pub first : IsFirst rest call
    pub early : EachCall (λ other. call.begin ≤ other.end) rest

  -- the calls without the next one of a client
  abbrev pub without_next : ℕ → List (Call O) → List (Call O)
  without_next client [] = []
  without_next client (call ∷ rest) =
      if call.client == client then rest else call ∷ without_next client rest

  -- what a call is counted as: pending calls do not count
  abbrev pub weight : Call O → ℕ
  weight call = if is_completed call then 1 else 0

  -- the number of completed calls
  abbrev pub answered : List (Call O) → ℕ
  answered [] = 0
  answered (call ∷ calls) = weight call + answered calls

module _ {S O R : Type 0} (X : Rules S O R) where
  -- made in this state, the call gives its reply; a pending call whose reply is unknown gives any
  abbrev pub fits : S → Call O → Bool
  fits s call = is_right X call.reply (X.run s call.op).1

  -- the call may come next, and gives its reply
  pub record Goes (at : Configuration S O) (call : Call O) : Type 0 where
    pub may : MayBegin at.rest call
    pub fit : fits at.state call ≡ true

  -- the configuration that a call leaves
  abbrev pub after_call : Configuration S O → Call O → Configuration S O
  after_call at call = record {
    rest = without_next call.client at.rest;
    state = (X.run at.state call.op).0;
  }

  -- these calls, one after the other, may come next and give their replies, and lead there
  abbrev pub CallsReach : Configuration S O → List (Call O) → Configuration S O → Type 0
  CallsReach a [] b = a ≡ b
  CallsReach a (call ∷ calls) b = Goes a call × CallsReach (after_call a call) calls b

  -- of `total` completed calls in all, at most `most` ever have a place from here on
  abbrev pub PlacesAtMost : ℕ → ℕ → Configuration S O → Type 0
  PlacesAtMost total most at = (calls : List (Call O)) (b : Configuration S O) →
      CallsReach at calls b → total ≤ most + answered b.rest

  -- from the start these calls lead here, where `most` completed ones have a place and some have
  -- none
  pub record Deepest (start : Configuration S O) (most : ℕ) (at : Configuration S O) : Type 0 where
    pub calls : List (Call O)
    pub reaches : CallsReach start calls at
    pub count : most + answered at.rest ≡ answered start.rest
    pub some : 1 ≤ answered at.rest
