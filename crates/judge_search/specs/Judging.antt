-- The findings on the calls of a history.
use Rattle.std.specs.Prelude.{◌≡◌, ◌<◌, ◌≤◌, ◌==◌, ⊤, ℕ, true, All, List, [], ◌∷◌, ◌++◌, length, map, get_or}
use Rattle.std.specs.List.{list_any}
use Rattle.judge_object.specs.Rules.{Rules}
use Rattle.judge_object.specs.Call.{Call}
use Rattle.judge_object.specs.Linear.{IsLinearization}
use Rattle.judge_object.specs.Orders.{IsOrderOf, IsLinearizable}
use Rattle.judge_search.specs.declared.walk.Found.{Found}
use Rattle.judge_search.specs.declared.walk.Finding.{Finding}
use Rattle.judge_search.specs.declared.walk.Finding.TheVariants as finding
use Rattle.judge_search.specs.Configurations.{Configuration, start, answered, PlacesAtMost, Deepest}
use Rattle.judge_search.specs.Calls.{no_call}
use Rattle.judge_search.specs.Searching.{HasRun, IsUndecided}
use Rattle.judge_search.specs.Walking.{AreDistinct, IsUnknown}

module _ {S O R : Type 0} (X : Rules S O R) where
  -- the calls at these places, in their order
  abbrev pub calls_at : List (Call O) → List ℕ → List (Call O)
  calls_at calls places = map (λ place. get_or calls place (no_call X)) places

  -- the calls at these places, each once, are an order of all that is a linearization, from a state
  -- on
  pub record IsLinearizedBy (s : S) (calls : List (Call O)) (places : List ℕ) : Type 0 where
    pub orders : IsOrderOf calls (calls_at calls places)
    pub linearization : IsLinearization X s (calls_at calls places)
    pub distinct : AreDistinct places
    pub within : All (λ place. place < length calls) places

  -- a place keeps its client's turn after other places: all earlier calls of the client are at
  -- those
  abbrev pub KeepsTurn : List (Call O) → List ℕ → ℕ → Type 0
  KeepsTurn calls before place = (earlier : ℕ) → earlier < place →
      (get_or calls earlier (no_call X)).client ≡ (get_or calls place (no_call X)).client →
      list_any (λ other. other == earlier) before ≡ true

  -- places keep their clients' turns, one after the other, after other places
  abbrev pub KeepTurns : List (Call O) → List ℕ → List ℕ → Type 0
  KeepTurns calls before [] = ⊤
  KeepTurns calls before (place ∷ places) =
      KeepsTurn calls before place × KeepTurns calls (before ++ place ∷ []) places

  -- the calls at these places, each once and each client's in their order, are an order of all that
  -- is a linearization
  pub record IsLinearizedInTurn (s : S) (calls : List (Call O)) (places : List ℕ) : Type 0 where
    pub is : IsLinearizedBy s calls places
    pub turns : KeepTurns calls [] places

  -- no order of the calls is one. At most `most` completed calls, one after the other, may come
  -- next and give their replies; here that many did
  pub record HasNoOrder (s : S) (calls : List (Call O)) (most : ℕ) (at : Configuration S O) : Type 0
    where
      pub none : IsLinearizable X s calls → ⊥
      pub deepest : Deepest X (start s calls) most at
      pub bound : PlacesAtMost X (answered calls) most (start s calls)

  -- what is found of the calls, from a state on, in this many steps
  abbrev pub IsFoundOfCalls : {P : Type 0} → (P → Configuration S O) → S → List (Call O) → ℕ
      → Finding P → Type 0
  IsFoundOfCalls at s calls steps (finding.Order places) = IsLinearizedBy s calls places.items
  IsFoundOfCalls at s calls steps (finding.NoOrder most point) = HasNoOrder s calls most (at point)
  IsFoundOfCalls at s calls steps (finding.Unknown most) = IsUndecided X (start s calls) steps most

  -- what is found of the calls, from a state on, in at most `steps` steps, and how many steps were
  -- made: all of them if nothing was found
  pub record IsFoundIn {P : Type 0} (at : P → Configuration S O) (s : S) (calls : List (Call O))
      (steps : ℕ) (found : Found P) : Type 0 where
    pub within : found.steps ≤ steps
    pub run : HasRun X found.steps (start s calls)
    pub finds : IsFoundOfCalls at s calls found.steps found.finding
    pub spent : IsUnknown found.finding → found.steps ≡ steps
