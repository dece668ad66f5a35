-- The calls that are stuck where a search is.
use Rattle.std.specs.Prelude.{◌≡◌, ◌<◌, ℕ, Bool, true, All, List, length, map, filter, get_or}
use Rattle.judge_object.specs.Rules.{Rules}
use Rattle.judge_object.specs.Call.{Call, is_completed}
use Rattle.judge_search.specs.declared.stuck.Stuck.{Stuck}
use Rattle.judge_search.specs.Calls.{no_call, can_come, tries_from}

module _ {S O R : Type 0} (X : Rules S O R) where
  -- the call at the place, and the reply that was expected
  abbrev pub told : List (Call O) → Stuck R → Call O × R
  told calls stuck = (get_or calls stuck.place (no_call X), stuck.expected)

  -- a call, and what the object would answer
  abbrev pub with_reply : S → Call O → Call O × R
  with_reply s call = (call, (X.run s call.op).1)

  -- the completed calls that may come next, from a place on, each with what the object would answer
  abbrev pub expected_from : S → (ℕ → Bool) → List (Call O) → ℕ → List (Call O × R)
  expected_from s made calls from =
      map (with_reply s) (filter is_completed (tries_from made calls from))

  -- these are the completed calls that may come next, in the order in which they ended, each at its
  -- place, with what the object would answer
  pub record AreStuck (s : S) (made : ℕ → Bool) (calls : List (Call O)) (found : List (Stuck R)) :
      Type 0 where
    pub told_are : map (told calls) found ≡ expected_from s made calls 0
    pub can : All (λ stuck. can_come X made calls stuck.place ≡ true) found
    pub within : All (λ stuck. stuck.place < length calls) found
