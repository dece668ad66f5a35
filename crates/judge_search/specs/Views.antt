-- How the points of a search are seen.
use Rattle.std.specs.Prelude.{◌≡◌, ◌+◌, ◌<◌, ◌^◌, ◌==◌, ◌||◌, ℕ, Bool, true, false, Option, Some, None, List, [], ◌∷◌}
use Rattle.judge_object.specs.Rules.{Rules}
use Rattle.judge_object.specs.Call.{Call}
use Rattle.judge_search.specs.Configurations.{Configuration, MayBegin, fits, after_call}

-- the configuration at a point, how many places there are, the call that a place names, whether the
-- call at a place has a position in the order, whether it may come next, and the calls that are
-- left to try at a point from a place on
pub record Views (P S O : Type 0) : Type 0 where
  pub at : P → Configuration S O
  pub count : ℕ
  pub call : ℕ → Call O
  pub made : P → ℕ → Bool
  pub can : P → ℕ → Bool
  pub tries : P → ℕ → List (Call O)

-- whether no completed call is left, where this many are
abbrev pub TellsLeft : ℕ → Bool → Type 0
TellsLeft left done = (done ≡ true → left ≡ 0) × (done ≡ false → 0 < left)

module _ {P S O : Type 0} where
  -- the next call to try from a place on is there
  pub record IsNextToTry (views : Views P S O) (point : P) (from place : ℕ) : Type 0 where
    pub is : views.tries point from ≡ views.call place ∷ views.tries point (place + 1)
    pub may : MayBegin (views.at point).rest (views.call place)
    pub can : views.can point place ≡ true
    pub left : views.made point place ≡ false
    pub within : place < views.count
    pub small : place + 1 < 2 ^ 64

  -- what is left to try from a place on
  abbrev pub TellsNext : Views P S O → P → ℕ → Option ℕ → Type 0
  TellsNext views point from None = views.tries point from ≡ []
  TellsNext views point from (Some place) = IsNextToTry views point from place

module _ {S O R : Type 0} (X : Rules S O R) {P : Type 0} where
  -- the point that a call leads to; None if the call's reply is not the correct one
  abbrev pub LedTo : Views P S O → P → ℕ → Option P → Type 0
  LedTo views point place None = fits X (views.at point).state (views.call place) ≡ false
  LedTo views point place (Some next) =
      (fits X (views.at point).state (views.call place) ≡ true)
      × (views.at next ≡ after_call X (views.at point) (views.call place))
      × ((p : ℕ) → views.made next p ≡ (views.made point p || p == place))
