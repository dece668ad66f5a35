-- Lines by the names of their objects.
use Rattle.std.specs.Prelude.{◌≡◌, ◌≢◌, ◌<◌, ◌++◌, ℕ, Option, Some, None, IsSome, List, [], ◌∷◌, length, get_or, filter}
use Rattle.std.specs.Global.{Vec}
use Rattle.std.specs.BTreeMap.{BTreeMap, get_by}
use Rattle.std.specs.Str.{bytes_eq}
use Rattle.std.specs.Ordering.{nat_cmp}
use Rattle.std.specs.Cmp.Lexicographic.{slice_cmp}
use Rattle.judge_object.specs.declared.line.Line.{Line}
use Rattle.judge_text.specs.Numbers.{HasNumber, name_in}
use Rattle.judge_text.specs.declared.numbers.Numbers.{Numbers}

-- the run of the object of a name, if it has one
abbrev pub run_in : {O : Type 0} → BTreeMap (Vec ℕ) (Vec (Line O)) → List ℕ → Option (Vec (Line O))
run_in runs name = get_by (λ key. slice_cmp nat_cmp name key.items) runs

-- a run has these lines; none is for none
abbrev pub IsRunFor : {O : Type 0} → Option (Vec (Line O)) → List (Line O) → Type 0
IsRunFor None lines = lines ≡ []
IsRunFor (Some run) lines = run.items ≡ lines

-- runs without lines
pub record AreEmpty {O : Type 0} (count : ℕ) (runs : List (Vec (Line O))) : Type 0 where
  pub long : length runs ≡ count
  pub each : (number : ℕ) (d : Vec (Line O)) → number < length runs →
      (get_or runs number d).items ≡ []

-- the run of this number has one more line
pub record HasOneMore {O : Type 0} (number : ℕ) (line : Line O)
    (old new : List (Vec (Line O))) : Type 0 where
  pub long : length new ≡ length old
  pub here : (d : Vec (Line O)) →
      (get_or new number d).items ≡ (get_or old number d).items ++ line ∷ []
  pub there : (other : ℕ) (d : Vec (Line O)) → other ≢ number →
      get_or new other d ≡ get_or old other d

-- a run that is found by a name stands at a place of that name, and some run is found by each name
pub record AreNamedRuns {O : Type 0} (names : List (Vec ℕ)) (runs : List (Vec (Line O)))
    (named : BTreeMap (Vec ℕ) (Vec (Line O))) : Type 0 where
  pub found : (name : List ℕ) (run : Vec (Line O)) → run_in named name ≡ Some run →
      (number : ℕ) × (number < length runs) × (name_in names number ≡ name)
      × ((d : Vec (Line O)) → get_or runs number d ≡ run)
  pub listed : (number : ℕ) → number < length runs →
      IsSome (run_in named (name_in names number))

module _ {O : Type 0} (name : O → List ℕ) where
  -- the name of the object that a line is for
  abbrev pub name_of : Line O → List ℕ
  name_of line = name line.op

  abbrev pub name_at : List (Line O) → ℕ → Line O → List ℕ
  name_at lines i d = name_of (get_or lines i d)

  -- all lines are for one object
  abbrev pub AreOfOne : List (Line O) → Type 0
  AreOfOne lines = (i : ℕ) (d : Line O) → i < length lines →
      name_at lines i d ≡ name_at lines 0 d

  -- the lines for the object of this name, in their order
  abbrev pub lines_for : List ℕ → List (Line O) → List (Line O)
  lines_for k lines = filter (λ line. bytes_eq (name_of line) k) lines

  -- the objects of lines have these numbers
  pub record AreNumbersOf (numbers : Numbers) (lines : List (Line O)) (found : List ℕ) :
      Type 0 where
    pub long : length found ≡ length lines
    pub each : (i : ℕ) (d : Line O) → i < length lines →
        HasNumber numbers (name_at lines i d) (get_or found i 0)

  -- each run has all lines of the object whose name stands at its place, in their order, and no
  -- line is for another object
  pub record AreRunsOf (names : List (Vec ℕ)) (lines : List (Line O))
      (runs : List (Vec (Line O))) : Type 0 where
    pub long : length runs ≡ length names
    pub each : (number : ℕ) (d : Vec (Line O)) → number < length runs →
        (get_or runs number d).items ≡ lines_for (name_in names number) lines
    pub others : (k : List ℕ) →
        ((number : ℕ) → number < length runs → name_in names number ≢ k) →
        lines_for k lines ≡ []

  -- each object's lines, in their order, are found by its name
  abbrev pub AreRunsByName : List (Line O) → BTreeMap (Vec ℕ) (Vec (Line O)) → Type 0
  AreRunsByName lines runs = (k : List ℕ) → IsRunFor (run_in runs k) (lines_for k lines)
