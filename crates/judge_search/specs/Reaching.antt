-- The configurations that calls lead to, and the states that linearizations of calls leave.
use Rattle.std.specs.Prelude.{◌≡◌, ◌↔◌, List, ◌++◌, map}
use Rattle.std.specs.List.{Contains}
use Rattle.judge_object.specs.Rules.{Rules}
use Rattle.judge_object.specs.Call.{Call}
use Rattle.judge_object.specs.Linear.{IsLinearization, state_after}
use Rattle.judge_object.specs.Orders.{IsOrderOf}
use Rattle.judge_search.specs.Configurations.{Configuration, Goes, CallsReach, after_call, answered}

-- given points are met: `after` is `before` with some of them behind it, and has the configuration
-- of each of them
pub record AddsNew {P C : Type 0} (at : P → C) (points before after : List P) : Type 0 where
  pub more : List P
  pub is : after ≡ before ++ more
  pub all : (c : C) → Contains (map at points) c → Contains (map at after) c
  pub only : (c : C) → Contains (map at more) c → Contains (map at points) c

module _ {S O R : Type 0} (X : Rules S O R) where
  -- a call that may come next in a configuration gives its reply, and leads to another one
  pub record IsNextOf (here next : Configuration S O) : Type 0 where
    pub call : Call O
    pub goes : Goes X here call
    pub is : next ≡ after_call X here call

  -- the points are exactly those that the calls lead to that may come next and give their replies
  abbrev pub AreNextOf : {P : Type 0} → (P → Configuration S O) → Configuration S O → List P
      → Type 0
  AreNextOf at here points = (next : Configuration S O) →
      Contains (map at points) next ↔ IsNextOf here next

  -- some calls, one after the other, may come next and give their replies, and lead there
  pub record IsReached (start there : Configuration S O) : Type 0 where
    pub calls : List (Call O)
    pub reaches : CallsReach X start calls there

  -- the points are exactly those that calls lead to from a start
  abbrev pub AreReached : {P : Type 0} → (P → Configuration S O) → Configuration S O → List P
      → Type 0
  AreReached at start points = (there : Configuration S O) →
      Contains (map at points) there ↔ IsReached start there

  -- some order of the calls is a linearization, from a state on, and leaves this state
  pub record IsLeft (s : S) (calls : List (Call O)) (state : S) : Type 0 where
    pub order : List (Call O)
    pub orders : IsOrderOf calls order
    pub linearization : IsLinearization X s order
    pub leaves : state_after X s order ≡ state

  -- the states that the linearizations of calls leave, from a state on, are exactly these
  abbrev pub AreLeft : S → List (Call O) → List S → Type 0
  AreLeft s calls states = (state : S) → Contains states state ↔ IsLeft s calls state

-- in some of these configurations no completed call is left, and this is its state
pub record IsFinalIn {S O : Type 0} (reached : List (Configuration S O)) (state : S) : Type 0 where
  pub at : Configuration S O
  pub is : Contains reached at
  pub done : answered at.rest ≡ 0
  pub state_is : at.state ≡ state

-- the states of the points at which no completed call is left are exactly these
abbrev pub AreFinal : {P S O : Type 0} → (P → Configuration S O) → List P → List S → Type 0
AreFinal at points states = (state : _) → Contains states state ↔ IsFinalIn (map at points) state
