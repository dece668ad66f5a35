-- A search as it runs: a path of calls from the start, at each place of the path the calls that are
-- left to try, and the configurations from which it is known how many calls have a place at most.
use Rattle.std.specs.Prelude.{◌≡◌, ◌≢◌, ◌+◌, ◌≤◌, ⊤, ℕ, false, Some, List, [], ◌∷◌, All, slice_get}
use Rattle.std.specs.List.{Contains}
use Rattle.judge_object.specs.Rules.{Rules}
use Rattle.judge_object.specs.Call.{Call, IsBehind, EachCall, is_completed}
use Rattle.judge_search.specs.Configurations.{Configuration, MayBegin, Goes, CallsReach, after_call, answered, PlacesAtMost, Deepest}

module _ {O : Type 0} where
  -- each client's calls are in their order, and take time
  abbrev pub InTurn : List (Call O) → Type 0
  InTurn [] = ⊤
  InTurn (call ∷ calls) =
      (call.begin ≤ call.end) × EachCall (λ later. IsBehind later call) calls × InTurn calls

  -- a call begins by the last moment, and a pending call does not end before it
  pub record IsTimed (last : ℕ) (call : Call O) : Type 0 where
    pub begins : call.begin ≤ last
    pub ends : is_completed call ≡ false → last ≤ call.end

  -- both hold of the calls
  pub record IsWhole (calls : List (Call O)) : Type 0 where
    pub turn : InTurn calls
    pub last : ℕ
    pub timed : EachCall (IsTimed last) calls

  -- the calls that may come next are among these
  abbrev pub AreChoices : List (Call O) → List (Call O) → Type 0
  AreChoices rest calls = (call : Call O) → MayBegin rest call → Contains calls call

  -- no two of the calls are of one client
  abbrev pub AreApart : List (Call O) → Type 0
  AreApart [] = ⊤
  AreApart (call ∷ calls) = EachCall (λ other. other.client ≢ call.client) calls × AreApart calls

-- a place of the path: its configuration, how many completed calls have a place there, the call
-- that was made there, and the calls that are left to try
pub record PathPlace (S O : Type 0) : Type 0 where
  pub at : Configuration S O
  pub placed : ℕ
  pub call : Call O
  pub others : List (Call O)

module _ {S O R : Type 0} (X : Rules S O R) where
  -- through this call at most `most` calls have a place
  abbrev pub IsLost : ℕ → ℕ → Configuration S O → Call O → Type 0
  IsLost total most at call = Goes X at call → PlacesAtMost X total most (after_call X at call)

  -- from a configuration at most this many calls have a place, where that is so through these
  -- calls; this holds of each number from the least on
  abbrev pub HangsOn : ℕ → ℕ → Configuration S O → List (Call O) → Type 0
  HangsOn total least at calls = (most : ℕ) → least ≤ most → All (IsLost total most at) calls →
      total ≤ most + answered at.rest → PlacesAtMost X total most at

  -- at this place this call was made
  pub record Made (total least : ℕ) (place : PathPlace S O) : Type 0 where
    pub goes : Goes X place.at place.call
    pub count : place.placed + answered place.at.rest ≡ total
    pub hangs : (most : ℕ) → least ≤ most →
        PlacesAtMost X total most (after_call X place.at place.call) →
        All (IsLost total most place.at) place.others → total ≤ most + answered place.at.rest →
        PlacesAtMost X total most place.at

  -- the path leads from one configuration to another
  abbrev pub PathLeads : ℕ → ℕ → Configuration S O → List (PathPlace S O) → Configuration S O
      → Type 0
  PathLeads total least a [] b = a ≡ b
  PathLeads total least a (place ∷ path) b =
      (a ≡ place.at) × Made total least place
      × PathLeads total least (after_call X place.at place.call) path b

  -- a search that began at a configuration, and has seen `most` completed calls placed
  pub record IsWalk (start : Configuration S O) (most : ℕ) (at : Configuration S O) (placed : ℕ)
      (tries : List (Call O)) (path : List (PathPlace S O)) (known : List (Configuration S O)) :
      Type 0 where
    pub whole : IsWhole start.rest
    pub leads : PathLeads (answered start.rest) most start path at
    pub hangs : HangsOn (answered start.rest) most at tries
    pub dead : All (PlacesAtMost X (answered start.rest) most) known
    pub count : placed + answered at.rest ≡ answered start.rest
    pub some : 1 ≤ answered at.rest

  -- the deepest of the configurations that are known, and its place among them
  pub record IsDeepest (start : Configuration S O) (most place : ℕ)
      (known : List (Configuration S O)) : Type 0 where
    pub at : Configuration S O
    pub is : slice_get known place ≡ Some at
    pub deepest : Deepest X start most at

  -- none is known, or that is the deepest
  abbrev pub KeepsDeepest : Configuration S O → ℕ → ℕ → List (Configuration S O) → Type 0
  KeepsDeepest start most place [] = most ≡ 0
  KeepsDeepest start most place (at ∷ known) = IsDeepest start most place (at ∷ known)

  -- these calls, in this order, are an order of all, and each gives its reply
  pub record Completes (at : Configuration S O) (order : List (Call O)) : Type 0 where
    pub to : Configuration S O
    pub reaches : CallsReach X at order to
    pub done : answered to.rest ≡ 0
