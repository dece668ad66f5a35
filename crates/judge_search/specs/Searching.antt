-- A search as it is done, step by step: its state, and what one step makes of it.
use Rattle.std.specs.Prelude.{◌≡◌, ⊤, ◌⊎◌, ◌+◌, ◌≤◌, ℕ, suc, zero, max, true, false, List, [], ◌∷◌, ◌++◌}
use Rattle.std.specs.List.{Contains}
use Rattle.judge_object.specs.Rules.{Rules}
use Rattle.judge_object.specs.Call.{Call}
use Rattle.judge_search.specs.Configurations.{Configuration, MayBegin, CallsReach, fits, after_call, weight, answered}
use Rattle.judge_search.specs.Walk.{AreChoices, AreApart, PathPlace}

-- where a search is, how many completed calls have a place there, the calls that are left to try,
-- the path that led there, and the configurations from which nothing is left to try
pub record Search (S O : Type 0) : Type 0 where
  pub at : Configuration S O
  pub placed : ℕ
  pub tries : List (Call O)
  pub path : List (PathPlace S O)
  pub known : List (Configuration S O)

module _ {S O : Type 0} where
  -- no step was made: completed calls are left, and those that may come next are all left to try,
  -- each client's once
  pub record SearchHasBegun (start : Configuration S O) (search : Search S O) : Type 0 where
    pub at : search.at ≡ start
    pub placed : search.placed ≡ 0
    pub path : search.path ≡ []
    pub known : search.known ≡ []
    pub some : 1 ≤ answered start.rest
    pub choices : AreChoices start.rest search.tries
    pub apart : AreApart search.tries

  -- this call is tried, which may come next; these are left
  pub record IsTried (search : Search S O) (call : Call O) (others : List (Call O)) : Type 0 where
    pub is : search.tries ≡ call ∷ others
    pub may : MayBegin search.at.rest call

  -- nothing is left to try: that is known now, and the search goes back by one place of the path
  pub record GoesBack (search next : Search S O) : Type 0 where
    pub path : List (PathPlace S O)
    pub place : PathPlace S O
    pub none : search.tries ≡ []
    pub led : search.path ≡ path ++ place ∷ []
    pub is : next ≡ record {
      at = place.at;
      placed = place.placed;
      tries = place.others;
      path = path;
      known = search.known ++ search.at ∷ [];
    }

module _ {S O R : Type 0} (X : Rules S O R) where
  -- a call is tried and passed over: it has another reply, or leads to a configuration that is
  -- known
  pub record PassesOver (search next : Search S O) : Type 0 where
    pub call : Call O
    pub others : List (Call O)
    pub tried : IsTried search call others
    pub why : (fits X search.at.state call ≡ false)
        ⊎ Contains search.known (after_call X search.at call)
    pub is : next ≡ record search { tries = others }

  -- a call is tried and made, and completed calls are left; those that may come next are all left
  -- to try, each client's once
  -- Not said: that a configuration that is known is not entered again; in which order the calls
  -- that may come next are tried.
  pub record GoesDeeper (search next : Search S O) : Type 0 where
    pub call : Call O
    pub others : List (Call O)
    pub tried : IsTried search call others
    pub fit : fits X search.at.state call ≡ true
    pub some : 1 ≤ answered (after_call X search.at call).rest
    pub at : next.at ≡ after_call X search.at call
    pub placed : next.placed ≡ search.placed + weight call
    pub choices : AreChoices next.at.rest next.tries
    pub apart : AreApart next.tries
    pub path : next.path ≡ search.path ++ (record {
      at = search.at;
      placed = search.placed;
      call = call;
      others = others;
    }) ∷ []
    pub known : next.known ≡ search.known

  -- what one step makes of a search
  abbrev pub MakesStep : Search S O → Search S O → Type 0
  MakesStep search next = PassesOver search next ⊎ GoesDeeper search next ⊎ GoesBack search next

  -- a search that began there has made this many steps, and nowhere placed more than this many
  -- completed calls
  abbrev pub HasMade : ℕ → Configuration S O → Search S O → ℕ → Type 0
  HasMade zero start search most = SearchHasBegun start search × (most ≡ 0)
  HasMade (suc steps) start search most =
      (before : Search S O) × (less : ℕ) × HasMade steps start before less × MakesStep before search
      × (most ≡ max less search.placed)

  -- a search that began there made this many steps: it had made all but the last without a result
  abbrev pub HasRun : ℕ → Configuration S O → Type 0
  HasRun zero start = ⊤
  HasRun (suc steps) start = (search : Search S O) × (most : ℕ) × HasMade steps start search most

  -- `most` completed calls have a place somewhere
  pub record Places (start : Configuration S O) (most : ℕ) : Type 0 where
    pub calls : List (Call O)
    pub at : Configuration S O
    pub reaches : CallsReach X start calls at
    pub count : most + answered at.rest ≡ answered start.rest

  -- a search that began there has made `steps` steps, and neither found an order nor seen that
  -- there is none; `most` completed calls had a place somewhere, and nowhere had more
  pub record IsUndecided (start : Configuration S O) (steps most : ℕ) : Type 0 where
    pub search : Search S O
    pub made : HasMade steps start search most
    pub placed : Places start most
