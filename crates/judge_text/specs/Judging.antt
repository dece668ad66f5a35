-- The verdict on a text, in the words of Herlihy and Wing (TOPLAS 1990), and at weaker levels of
-- consistency.
use Rattle.std.specs.Prelude.{◌≡◌, ⊤, ℕ, Ok, Err, List}
use Rattle.judge_object.specs.Rules.{Rules}
use Rattle.judge_object.specs.Call.{Call}
use Rattle.judge_object.specs.declared.level.Level.{Level}
use Rattle.judge_object.specs.declared.line.Line.{Line}
use Rattle.judge_object.specs.Levels.{IsAt}
use Rattle.judge_object.specs.Relaxed.{relax}
use Rattle.judge_search.specs.Calls.{calls_of}
use Rattle.judge_search.specs.Walk.{InTurn}
use Rattle.judge_text.specs.declared.by_object.Verdict.{Verdict}
use Rattle.judge_text.specs.declared.by_object.Verdict.TheVariants as verdict
use Rattle.judge_text.specs.Many.{many}
use Rattle.judge_text.specs.Classing.{object_of, for_object}
use Rattle.judge_text.specs.Verdict.{IsVerdictOn}
use Rattle.judge_text.specs.Turns.{IsFirstOutOfTurn}
use Rattle.judge_text.specs.declared.counting.Counts.{Counts}
use Rattle.judge_text.specs.declared.judging.TextVerdict.{TextVerdict}
use Rattle.judge_text.specs.declared.judging.TextVerdict.TheVariants.{Fault, Judged}
use Rattle.judge_text.specs.declared.settings.Settings.{Settings}
use Rattle.judge_text.specs.Language.{Language}
use Rattle.judge_text.specs.Counting.{counts_of}
use Rattle.judge_text.specs.Reading.{text_calls, AreNumbered}

module _ {S O R : Type 0} (X : Rules S O R) (name : O → List ℕ) where
  -- each client's calls are in turn, and the calls are at the level; s has the state in which the
  -- object of each name begins
  pub record AreLegal (kept : Level) (s : List ℕ → S) (calls : List (Call O)) : Type 0 where
    pub turn : InTurn calls
    pub order : IsAt (many X name) kept s calls

  -- calls are legal, or not, if the verdict says so
  abbrev pub DecidesCalls : Level → (List ℕ → S) → List (Call O) → Verdict O S → Type 0
  DecidesCalls kept s calls verdict.Linearizable = AreLegal kept s calls
  DecidesCalls kept s calls (verdict.NotLinearizable blocked) = AreLegal kept s calls → ⊥
  DecidesCalls kept s calls (verdict.OutOfTurn place) = AreLegal kept s calls → ⊥
  DecidesCalls kept s calls (verdict.Unknown open_) = ⊤
  DecidesCalls kept s calls verdict.Touching = ⊤

  -- what a verdict says of calls, of which these lines have the calls without the order that a
  -- level does not keep. Whether calls are in turn is said of the calls as they are
  abbrev pub IsVerdictAt : (List ℕ → S) → ℕ → List (Call O) → List (Line O) → Verdict O S → Type 0
  IsVerdictAt s steps calls lines (verdict.OutOfTurn place) = IsFirstOutOfTurn calls place
  IsVerdictAt s steps calls lines verdict.Linearizable =
      IsVerdictOn X name s steps lines verdict.Linearizable
  IsVerdictAt s steps calls lines (verdict.NotLinearizable blocked) =
      IsVerdictOn X name s steps lines (verdict.NotLinearizable blocked)
  IsVerdictAt s steps calls lines (verdict.Unknown open_) =
      IsVerdictOn X name s steps lines (verdict.Unknown open_)
  IsVerdictAt s steps calls lines verdict.Touching =
      IsVerdictOn X name s steps lines verdict.Touching

  -- the counts are those of the calls, and the verdict is that on lines, which are numbered from 1
  -- and have the calls without the order that the level does not keep
  pub record AreJudged (how : Settings) (s : List ℕ → S) (calls : List (Call O)) (counts : Counts)
      (v : Verdict O S) : Type 0 where
    pub lines : List (Line O)
    pub relaxed : calls_of lines ≡ relax how.level calls
    pub numbered : AreNumbered 1 lines
    pub counted : counts ≡ counts_of name calls
    pub judged : IsVerdictAt s how.steps calls lines v

module _ {S O R : Type 0} (X : Rules S O R) (name : O → List ℕ)
    (naming : List (Call O) → (List ℕ → List ℕ) → Type 0) where
  -- what a verdict says of the calls of lines, and that it decides whether they are legal
  abbrev pub IsVerdictOnLines : (List ℕ → S) → Settings → List (Line O) → TextVerdict O S → Type 0
  IsVerdictOnLines s how lines (Fault number fault) = ⊥
  IsVerdictOnLines s how lines (Judged names counts v) =
      naming (relax how.level (calls_of lines)) (object_of names)
      × AreJudged X (for_object (object_of names) name) how s (calls_of lines) counts v
      × DecidesCalls X (for_object (object_of names) name) how.level s (calls_of lines) v

module _ {S O R : Type 0} (X : Rules S O R) (name : O → List ℕ) (L : Language O R) where
  -- each line of a text is a call, each client's calls are in turn, and the calls are at the level:
  -- they have a linearization, or an order of a weaker level. The object of each name begins in the
  -- state that s gives it
  pub record IsLegalText (kept : Level) (s : List ℕ → S) (text : List ℕ) : Type 0 where
    pub calls : List (Call O)
    pub are : text_calls X L text ≡ Ok calls
    pub turn : InTurn calls
    pub order : IsAt (many X name) kept s calls

  -- the counts and the verdict are those of the calls of a text
  pub record IsJudgedText (how : Settings) (s : List ℕ → S) (text : List ℕ) (counts : Counts)
      (v : Verdict O S) : Type 0 where
    pub calls : List (Call O)
    pub are : text_calls X L text ≡ Ok calls
    pub judged : AreJudged X name how s calls counts v

  -- a text is legal, or not, if the verdict on its calls says so
  abbrev pub DecidesBy : Level → (List ℕ → S) → List ℕ → Verdict O S → Type 0
  DecidesBy kept s text verdict.Linearizable = IsLegalText kept s text
  DecidesBy kept s text (verdict.NotLinearizable blocked) = IsLegalText kept s text → ⊥
  DecidesBy kept s text (verdict.OutOfTurn place) = IsLegalText kept s text → ⊥
  DecidesBy kept s text (verdict.Unknown open_) = ⊤
  DecidesBy kept s text verdict.Touching = ⊤

module _ {S O R : Type 0} (X : Rules S O R) (name : O → List ℕ)
    (naming : List (Call O) → (List ℕ → List ℕ) → Type 0) (L : Language O R) where
  -- the names of the operations of a text's calls stand for these objects, where only the order
  -- stays that the level keeps
  abbrev pub HasNaming : Level → List ℕ → (List ℕ → List ℕ) → Type 0
  HasNaming kept text objects = (calls : List (Call O)) → text_calls X L text ≡ Ok calls →
      naming (relax kept calls) objects

  -- what a verdict says of a text
  abbrev pub IsVerdictOnText : (List ℕ → S) → List ℕ → Settings → TextVerdict O S → Type 0
  IsVerdictOnText s text how (Fault number fault) = text_calls X L text ≡ Err (number, fault)
  IsVerdictOnText s text how (Judged names counts v) =
      HasNaming how.level text (object_of names)
      × IsJudgedText X (for_object (object_of names) name) L how s text counts v

  -- a text is legal, or not, if the verdict says so. A text with a fault is not, whatever objects
  -- its names stand for
  abbrev pub DecidesLegal : Level → (List ℕ → S) → List ℕ → TextVerdict O S → Type 0
  DecidesLegal kept s text (Fault number fault) =
      (for : O → List ℕ) → IsLegalText X for L kept s text → ⊥
  DecidesLegal kept s text (Judged names counts v) =
      DecidesBy X (for_object (object_of names) name) L kept s text v
