-- The states that are possible after calls, for a system of the greatest number of blocks.
use Rattle.std.specs.Prelude.{◌≡◌, ◌↔◌, ◌⊎◌, ◌+◌, ◌≤◌, ⊤, ℕ, List, [], ◌∷◌, length}
use Rattle.std.specs.List.{Contains}
use Rattle.vac_model.specs.declared.limits.TheConstants.{MOST_BLOCKS}
use Rattle.vac_model.specs.State.{State, empty_state}
use Rattle.judge_calls.specs.Call.{Call}
use Rattle.judge_object.specs.Cut.{cut}
use Rattle.judge_reservations.specs.Reserving.{reserving}
use Rattle.judge_search.specs.Reaching.{AreLeft}

-- no state is in a list twice
abbrev pub AreOnce : List State → Type 0
AreOnce [] = ⊤
AreOnce (state ∷ states) = (Contains states state → ⊥) × AreOnce states

-- a state is added to a list of states unless it is there
pub record AddsOnce (state : State) (before after : List State) : Type 0 where
  pub once : AreOnce before → AreOnce after
  pub are : (other : State) → Contains after other ↔ (Contains before other ⊎ (state ≡ other))

-- a list has the states of another, each once
pub record AreSameOnce (states same : List State) : Type 0 where
  pub once : AreOnce same
  pub are : (state : State) → Contains same state ↔ Contains states state

-- the states that the linearizations of calls leave are exactly those of a list of this many
-- different states, and there is one
pub record HaveStates (calls : List Call) (count : ℕ) : Type 0 where
  pub states : List State
  pub are : AreLeft reserving (empty_state MOST_BLOCKS) calls states
  pub once : AreOnce states
  pub number : length states ≡ count
  pub some : 1 ≤ count

-- this many states were possible just before a moment, which is not the first: the linearizations
-- of the calls, as they stood then, leave exactly so many
pub record HadStatesBefore (calls : List Call) (moment count : ℕ) : Type 0 where
  pub before : ℕ
  pub next : moment ≡ before + 1
  pub had : HaveStates (cut before calls) count
