-- The completed calls come first, and each call is linked to its client's call before it.
use Rattle.std.specs.Prelude.{◌≡◌, ◌≢◌, ◌<◌, ◌≤◌, ℕ, suc, true, false, Option, Some, None, List, length, get_or}
use Rattle.judge_object.specs.declared.line.Line.{Line}
use Rattle.judge_search.specs.Calls.{has_ended}

-- the number that is given, or 0
abbrev pub link_or : Option ℕ → ℕ
link_or None = 0
link_or (Some link) = link

module _ {O : Type 0} where
  -- the first `completed` of these lines are completed calls, and the others are pending
  pub record ArePartedAt (lines : List (Line O)) (completed : ℕ) : Type 0 where
    pub within : completed ≤ length lines
    pub before : (place : ℕ) (d : Line O) → place < completed →
        has_ended (get_or lines place d) ≡ true
    pub after : (place : ℕ) (d : Line O) → completed ≤ place → place < length lines →
        has_ended (get_or lines place d) ≡ false

  -- `link` is the place after that of this client's last line before a place, or 0 if there is none
  pub record IsLastOf (lines : List (Line O)) (client place link : ℕ) : Type 0 where
    pub before : link ≤ place
    pub same : (q : ℕ) (d : Line O) → link ≡ suc q → (get_or lines q d).client ≡ client
    pub none : (j : ℕ) (d : Line O) → link ≤ j → j < place → (get_or lines j d).client ≢ client

  -- `link` is the place after that of the same client's last line before the one at a place, or 0
  -- if there is none
  abbrev pub IsLink : List (Line O) → ℕ → ℕ → Type 0
  IsLink lines place link = (d : Line O) → IsLastOf lines (get_or lines place d).client place link

  -- these are the links of all lines
  pub record AreLinked (lines : List (Line O)) (links : List ℕ) : Type 0 where
    pub length_is : length links ≡ length lines
    pub each : (place : ℕ) → place < length lines → IsLink lines place (get_or links place 0)
