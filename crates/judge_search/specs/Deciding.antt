-- Bounds on the number of steps that decide a search.
use Rattle.std.specs.Prelude.{◌+◌, ◌*◌, ◌≤◌, ℕ, suc, zero, List, length}
use Rattle.judge_object.specs.Rules.{Rules}
use Rattle.judge_object.specs.Call.{Call}
use Rattle.judge_search.specs.declared.point.Point.{Point}
use Rattle.judge_search.specs.declared.walk.Found.{Found}
use Rattle.judge_search.specs.Configurations.{Configuration, start}
use Rattle.judge_search.specs.Searching.{HasRun}
use Rattle.judge_search.specs.Judging.{IsFoundIn}
use Rattle.judge_search.specs.Walking.{IsUnknown}

-- the steps of a search of this many calls that tries each order of them: each of the calls is made
-- first, by one step, and a search of the others follows; after the last of them one step goes back
abbrev pub most_steps : ℕ → ℕ
most_steps zero = 1
most_steps (suc others) = suc others * (1 + most_steps others) + 1

module _ {S O R : Type 0} (X : Rules S O R) where
  -- no search of calls makes more steps than one that tries each order of them
  abbrev pub SearchesEnd : Type 0
  SearchesEnd = (s : S) (calls : List (Call O)) (steps : ℕ) →
      HasRun X steps (start s calls) → steps ≤ most_steps (length calls)

  -- with that many steps a search finds an order of the calls, or that there is none
  abbrev pub EnoughStepsDecide : Type 0
  EnoughStepsDecide = (at : Point S → Configuration S O) (s : S) (calls : List (Call O)) (steps : ℕ)
      (found : Found (Point S)) → IsFoundIn X at s calls steps found →
      most_steps (length calls) ≤ steps → IsUnknown found.finding → ⊥
