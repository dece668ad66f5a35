-- The verdicts on a history of many objects.
use Rattle.std.specs.Prelude.{ℕ, List}
use Rattle.judge_object.specs.Rules.{Rules}
use Rattle.judge_object.specs.declared.line.Line.{Line}
use Rattle.judge_object.specs.Orders.{IsLinearizable}
use Rattle.judge_search.specs.Calls.{calls_of}
use Rattle.judge_search.specs.Walk.{IsWhole}
use Rattle.judge_text.specs.declared.by_object.Verdict.{Verdict}
use Rattle.judge_text.specs.declared.by_object.Verdict.TheVariants as verdict
use Rattle.judge_text.specs.Many.{many, part, AreStrict}
use Rattle.judge_text.specs.ByObject.{IsFirstBlocked, IsFirstOpen}
use Rattle.judge_text.specs.Runs.{AreOfOne}
use Rattle.judge_text.specs.Turns.{IsFirstOutOfTurn}

module _ {S O R : Type 0} (X : Rules S O R) (name : O → List ℕ) where
  -- some order of all calls is a linearization; s has the state in which the object of each name
  -- begins
  abbrev pub IsManyLinearizable : (List ℕ → S) → List (Line O) → Type 0
  IsManyLinearizable s lines = IsLinearizable (many X name) s (calls_of lines)

  -- the calls are of several objects, and the calls of each object have a linearization; but some
  -- client began a call at the very time at which an earlier call of its own ended, so that
  -- locality says nothing of all calls together
  pub record IsTouching (s : List ℕ → S) (lines : List (Line O)) : Type 0 where
    pub parts : (k : List ℕ) → IsLinearizable X (s k) (part name k (calls_of lines))
    pub touches : AreStrict (calls_of lines) → ⊥
    pub several : AreOfOne name lines → ⊥

  -- what a verdict says of the calls of lines; s has the state in which the object of each name
  -- begins
  abbrev pub IsVerdictOn : (List ℕ → S) → ℕ → List (Line O) → Verdict O S → Type 0
  IsVerdictOn s steps lines (verdict.OutOfTurn place) = IsFirstOutOfTurn (calls_of lines) place
  IsVerdictOn s steps lines verdict.Linearizable =
      IsWhole (calls_of lines) × IsManyLinearizable s lines
  IsVerdictOn s steps lines (verdict.NotLinearizable blocked) =
      IsWhole (calls_of lines) × IsFirstBlocked X name s lines blocked
      × (IsManyLinearizable s lines → ⊥)
  IsVerdictOn s steps lines (verdict.Unknown open_) =
      IsWhole (calls_of lines) × IsFirstOpen X name s steps lines open_
  IsVerdictOn s steps lines verdict.Touching = IsWhole (calls_of lines) × IsTouching s lines
