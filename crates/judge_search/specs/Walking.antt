-- The parts of a running search.
use Rattle.std.specs.Prelude.{◌≡◌, ◌<◌, ◌==◌, ◌||◌, ℕ, max, Bool, false, nat_lt, if◌then◌else◌, ◌≤◌, ⊤, vec_len, All, List, [], ◌∷◌, ◌++◌, map}
use Rattle.std.specs.List.{list_any, sum_by}
use Rattle.judge_object.specs.Rules.{Rules}
use Rattle.judge_object.specs.Call.{Call}
use Rattle.judge_search.specs.declared.path.Frame.{Frame}
use Rattle.judge_search.specs.declared.path.Walk.{Walk}
use Rattle.judge_search.specs.declared.walk.Step.{Step}
use Rattle.judge_search.specs.declared.walk.Step.TheVariants as step
use Rattle.judge_search.specs.declared.walk.Found.{Found}
use Rattle.judge_search.specs.declared.walk.Finding.{Finding}
use Rattle.judge_search.specs.declared.walk.Finding.TheVariants as finding
use Rattle.judge_search.specs.Configurations.{Configuration, Goes, answered, PlacesAtMost, Deepest}
use Rattle.judge_search.specs.Searching.{Search, HasMade, HasRun, IsUndecided}
use Rattle.judge_search.specs.Walk.{PathPlace, IsWalk, KeepsDeepest, Completes}
use Rattle.judge_search.specs.Views.{Views}

-- no number is in a list twice
abbrev pub AreDistinct : List ℕ → Type 0
AreDistinct numbers = (number : ℕ) → sum_by (λ other. if other == number then 1 else 0) numbers ≤ 1

-- the number of the deepest known point, and how many completed calls have a position there, after
-- one more point is known, of this number and with so many calls that have a position
abbrev pub best_of : ℕ → ℕ → ℕ → ℕ → ℕ × ℕ
best_of number placed best most =
    if number == 0 || nat_lt most placed then (number, placed) else (best, most)

module _ {P : Type 0} where
  -- the number of the deepest point is at most the number of known points
  abbrev pub BestIsWithin : Walk P → Type 0
  BestIsWithin walk = walk.best ≤ vec_len walk.known.points

  abbrev pub StaysWithin : Step P → Type 0
  StaysWithin (step.On walk) = BestIsWithin walk
  StaysWithin (step.Found places) = ⊤
  StaysWithin (step.NoOrder most point) = ⊤

  -- the places of the calls of a path
  abbrev pub places_of : List (Frame P) → List ℕ
  places_of path = map (λ frame. frame.place) path

-- the search neither found an order nor saw that there is none
abbrev pub IsUnknown : {P : Type 0} → Finding P → Type 0
IsUnknown (finding.Order places) = ⊥
IsUnknown (finding.NoOrder most point) = ⊥
IsUnknown (finding.Unknown most) = ⊤

module _ {P S O : Type 0} where
  -- the place of the path that a frame stands for
  abbrev pub path_place : Views P S O → Frame P → PathPlace S O
  path_place views frame = record {
    at = views.at frame.point;
    placed = frame.placed;
    call = views.call frame.place;
    others = views.tries frame.point frame.next;
  }

  -- besides the calls that had a place before, those at these places have one at a point, each once
  pub record AreMade (views : Views P S O) (first : ℕ → Bool) (places : List ℕ) (point : P) :
      Type 0 where
    pub made : (p : ℕ) →
        views.made point p ≡ (first p || list_any (λ other. other == p) places)
    pub distinct : AreDistinct places
    pub within : All (λ p. p < views.count) places

  -- this holds all along a path, after these places
  abbrev pub AreMadeBy : Views P S O → (ℕ → Bool) → List ℕ → List (Frame P) → P → Type 0
  AreMadeBy views first places [] point = AreMade views first places point
  AreMadeBy views first places (frame ∷ path) point =
      AreMade views first places frame.point
      × AreMadeBy views first (places ++ frame.place ∷ []) path point

  -- the search that a walk is, with these calls left to try
  abbrev pub search_of : Views P S O → P → ℕ → List (Frame P) → List P → List (Call O) → Search S O
  search_of views point placed path known tries = record {
    at = views.at point;
    placed = placed;
    tries = tries;
    path = map (path_place views) path;
    known = map views.at known;
  }

module _ {S O R : Type 0} (X : Rules S O R) {P : Type 0} where
  -- a search that began there and has made `steps` steps: where it is, how many completed calls
  -- have a place, its path, the points that are known, the deepest of them, how many have a place
  -- there, and the calls that are left to try
  pub record IsSearch (views : Views P S O) (start : Configuration S O) (steps : ℕ) (point : P)
      (placed : ℕ) (path : List (Frame P)) (known : List P) (best most : ℕ)
      (tries : List (Call O)) : Type 0 where
    pub is : IsWalk X start most (views.at point) placed tries (map (path_place views) path)
        (map views.at known)
    pub deepest : KeepsDeepest X start most best (map views.at known)
    pub made : HasMade X steps start (search_of views point placed path known tries)
        (max most placed)
    pub first : ℕ → Bool
    pub places : AreMadeBy views first [] path point

  -- a walk that began there and has made `steps` steps, with these calls left to try
  abbrev pub WalksWith : Views P S O → Configuration S O → ℕ → Walk P → List (Call O) → Type 0
  WalksWith views start steps walk tries =
      IsSearch views start steps walk.point walk.placed walk.path.items walk.known.points.items
      walk.best walk.most tries

  abbrev pub Walks : Views P S O → Configuration S O → ℕ → Walk P → Type 0
  Walks views start steps walk =
      WalksWith views start steps walk (views.tries walk.point walk.next)

  -- a search that tries the call at a place, which may come next, gives its reply and has no place
  -- yet
  pub record TriesPlace (views : Views P S O) (start : Configuration S O) (steps : ℕ)
      (walk : Walk P) (place : ℕ) : Type 0 where
    pub walks : WalksWith views start steps walk
        (views.call place ∷ views.tries walk.point walk.next)
    pub goes : Goes X (views.at walk.point) (views.call place)
    pub left : views.made walk.point place ≡ false

  -- these places name an order of all calls, each once
  pub record CompletesBy (views : Views P S O) (start : Configuration S O) (places : List ℕ) :
      Type 0 where
    pub completes : Completes X start (map views.call places)
    pub distinct : AreDistinct places
    pub within : All (λ place. place < views.count) places

  -- no order has more calls placed than lead to this point
  abbrev pub FailsBy : Views P S O → Configuration S O → ℕ → P → Type 0
  FailsBy views start most point =
      Deepest X start most (views.at point) × PlacesAtMost X (answered start.rest) most start

  -- what a step of a search leads to, which has then made `steps` steps
  abbrev pub StepsTo : Views P S O → Configuration S O → ℕ → Step P → Type 0
  StepsTo views start steps (step.On walk) = Walks views start steps walk
  StepsTo views start steps (step.Found places) = CompletesBy views start places.items
  StepsTo views start steps (step.NoOrder most point) = FailsBy views start most point

  -- what is found from a configuration, in `steps` steps
  abbrev pub FindsFrom : Views P S O → Configuration S O → ℕ → Finding P → Type 0
  FindsFrom views start steps (finding.Order places) = CompletesBy views start places.items
  FindsFrom views start steps (finding.NoOrder most point) = FailsBy views start most point
  FindsFrom views start steps (finding.Unknown most) = IsUndecided X start steps most

  -- what is found from a configuration in at most `steps` steps, and how many steps were made: all
  -- of them if nothing was found
  pub record FindsIn (views : Views P S O) (start : Configuration S O) (steps : ℕ)
      (found : Found P) : Type 0 where
    pub within : found.steps ≤ steps
    pub run : HasRun X found.steps start
    pub finds : FindsFrom views start found.steps found.finding
    pub spent : IsUnknown found.finding → found.steps ≡ steps
