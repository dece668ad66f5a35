-- The findings on the calls of one object, and on those of many.
use Rattle.std.specs.Prelude.{◌≡◌, ◌≢◌, ◌≤◌, ◌+◌, ⊤, ℕ, true, false, List, [], ◌∷◌}
use Rattle.std.specs.Ordering.{is_lt, nat_cmp}
use Rattle.std.specs.Cmp.Lexicographic.{slice_cmp}
use Rattle.judge_object.specs.Rules.{Rules}
use Rattle.judge_object.specs.Call.{Call, is_completed}
use Rattle.judge_object.specs.declared.line.Line.{Line}
use Rattle.judge_object.specs.Orders.{IsMerge, IsLinearizable}
use Rattle.judge_search.specs.Calls.{calls_of}
use Rattle.judge_search.specs.Configurations.{Configuration, MayBegin, start, fits}
use Rattle.judge_search.specs.Judging.{HasNoOrder}
use Rattle.judge_search.specs.Point.{point_at}
use Rattle.judge_search.specs.Searching.{HasRun, IsUndecided}
use Rattle.judge_search.specs.Sorting.{AreSortOf}
use Rattle.judge_text.specs.declared.parts.Blocked.{Blocked}
use Rattle.judge_text.specs.declared.parts.Undecided.{Undecided}
use Rattle.judge_text.specs.declared.parts.Judged.{Judged}
use Rattle.judge_text.specs.declared.parts.Searched.{Searched}
use Rattle.judge_text.specs.declared.parts.Judged.TheVariants as judged
use Rattle.judge_text.specs.Many.{part}
use Rattle.judge_text.specs.Runs.{lines_for}

-- a name comes before another in the order of bytes
abbrev pub IsNameBefore : List ℕ → List ℕ → Type 0
IsNameBefore a b = is_lt (slice_cmp nat_cmp a b) ≡ true

-- the object of this name is none of these
abbrev pub IsNoneOf : List ℕ → List (List ℕ × ℕ) → Type 0
IsNoneOf k [] = ⊤
IsNoneOf k (one ∷ others) = (one.0 ≢ k) × IsNoneOf k others

-- the steps of these searches together
abbrev pub steps_of : List (List ℕ × ℕ) → ℕ
steps_of [] = 0
steps_of (one ∷ others) = one.1 + steps_of others

module _ {S O R : Type 0} (X : Rules S O R) where
  -- some completed call may come next, and none of those that may gives its reply
  pub record AreBlocked (at : Configuration S O) : Type 0 where
    pub call : Call O
    pub may : MayBegin at.rest call
    pub completed : is_completed call ≡ true
    pub none : (other : Call O) → MayBegin at.rest other → is_completed other ≡ true →
        fits X at.state other ≡ false

  -- no order of the calls of these lines is a linearization. The lines are kept by their ends, each
  -- client's in their order; at most `most` completed calls can be placed one after the other, and
  -- at the point that many are. There the calls are blocked
  pub record IsBlocked (s : S) (lines : List (Line O)) (blocked : Blocked O S) : Type 0 where
    pub none : IsLinearizable X s (calls_of lines) → ⊥
    pub kept : AreSortOf lines blocked.calls.lines.items
    pub merges : IsMerge (calls_of lines) (calls_of blocked.calls.lines.items)
    pub found : HasNoOrder X s (calls_of blocked.calls.lines.items) blocked.most
        (point_at X blocked.calls blocked.point)
    pub stuck : AreBlocked (point_at X blocked.calls blocked.point)

  -- the search among the calls of these lines made all its steps, and neither found a linearization
  -- nor saw that there is none
  pub record IsOpen (s : S) (steps : ℕ) (lines : List (Line O)) (open_ : Undecided O) : Type 0 where
    pub kept : AreSortOf lines open_.calls.lines.items
    pub merges : IsMerge (calls_of lines) (calls_of open_.calls.lines.items)
    pub spent : IsUndecided X (start s (calls_of open_.calls.lines.items)) steps open_.most

  -- what is found of the calls of one object
  abbrev pub JudgesRun : S → ℕ → List (Line O) → Judged O S → Type 0
  JudgesRun s steps lines judged.Linearizable = IsLinearizable X s (calls_of lines)
  JudgesRun s steps lines (judged.NotLinearizable blocked) = IsBlocked s lines blocked
  JudgesRun s steps lines (judged.Unknown open_) = IsOpen s steps lines open_

  -- nothing is known of the calls
  abbrev pub IsOpenFinding : Judged O S → Type 0
  IsOpenFinding judged.Linearizable = ⊥
  IsOpenFinding (judged.NotLinearizable blocked) = ⊥
  IsOpenFinding (judged.Unknown open_) = ⊤

  -- a search among the calls of these lines, kept by their ends, made this many steps
  pub record HasSearched (s : S) (lines : List (Line O)) (steps : ℕ) : Type 0 where
    pub kept : List (Line O)
    pub sorted : AreSortOf lines kept
    pub run : HasRun X steps (start s (calls_of kept))

  -- what is found of the calls of one object in at most `steps` steps, and the number of steps that
  -- were made: all of them if nothing was found
  pub record SearchesRun (s : S) (steps : ℕ) (lines : List (Line O)) (searched : Searched O S) :
      Type 0 where
    pub within : searched.steps ≤ steps
    pub run : HasSearched s lines searched.steps
    pub judges : JudgesRun s steps lines searched.judged
    pub spent : IsOpenFinding searched.judged → searched.steps ≡ steps

  module _ (name : O → List ℕ) where
    -- the search among the calls of the object of this name made this many steps
    abbrev pub HasSearchedOne : (List ℕ → S) → List (Line O) → List ℕ × ℕ → Type 0
    HasSearchedOne s lines one = HasSearched (s one.0) (lines_for name one.0 lines) one.1

    -- searches among the calls of these objects, each searched once, made these many steps
    abbrev pub HaveSearched : (List ℕ → S) → List (Line O) → List (List ℕ × ℕ) → Type 0
    HaveSearched s lines [] = ⊤
    HaveSearched s lines (one ∷ others) =
        HasSearchedOne s lines one × IsNoneOf one.0 others × HaveSearched s lines others

    -- the calls of each object with an earlier name have a linearization
    abbrev pub AreDoneBefore : (List ℕ → S) → List (Line O) → List ℕ → Type 0
    AreDoneBefore s lines k = (j : List ℕ) → IsNameBefore j k →
        IsLinearizable X (s j) (part name j (calls_of lines))

    -- the first object, in the order of names, whose calls have no linearization
    pub record IsFirstBlocked (s : List ℕ → S) (lines : List (Line O)) (blocked : Blocked O S) :
        Type 0 where
      pub for : List ℕ
      pub before : AreDoneBefore s lines for
      pub is : IsBlocked (s for) (lines_for name for lines) blocked

    -- the first object, in the order of names, that is undecided: the search among its calls made
    -- all steps that the searches among the calls of other objects, each searched once, had left
    pub record IsFirstOpen (s : List ℕ → S) (steps : ℕ) (lines : List (Line O))
        (open_ : Undecided O) : Type 0 where
      pub for : List ℕ
      pub before : AreDoneBefore s lines for
      pub others : List (List ℕ × ℕ)
      pub searched : HaveSearched s lines others
      pub apart : IsNoneOf for others
      pub own : ℕ
      pub spent : own + steps_of others ≡ steps
      pub is : IsOpen (s for) own (lines_for name for lines) open_

    -- what is found of the calls of many objects, judged in the order of their names; s has the
    -- state in which the object of each name begins
    abbrev pub JudgesParts : (List ℕ → S) → ℕ → List (Line O) → Judged O S → Type 0
    JudgesParts s steps lines judged.Linearizable =
        (k : List ℕ) → IsLinearizable X (s k) (part name k (calls_of lines))
    JudgesParts s steps lines (judged.NotLinearizable blocked) = IsFirstBlocked s lines blocked
    JudgesParts s steps lines (judged.Unknown open_) = IsFirstOpen s steps lines open_
