-- The text of a verdict.
use Rattle.std.specs.Prelude.{◌≡◌, ◌<◌, ⊤, ℕ, ◌+◌, All, List, [], ◌∷◌, ◌++◌, map, flat_map, length, get_or, codes, decimal}
use Rattle.vac_lines.specs.Script.{as_line}
use Rattle.judge_object.specs.Rules.{Rules}
use Rattle.judge_object.specs.declared.line.Line.{Line}
use Rattle.judge_search.specs.declared.stuck.Stuck.{Stuck}
use Rattle.judge_search.specs.Calls.{calls_of}
use Rattle.judge_search.specs.Point.{made_of}
use Rattle.judge_search.specs.Stuck.{AreStuck}
use Rattle.judge_text.specs.declared.parts.Blocked.{Blocked}
use Rattle.judge_text.specs.declared.by_object.Verdict.{Verdict}
use Rattle.judge_text.specs.declared.by_object.Verdict.TheVariants as verdict
use Rattle.judge_text.specs.Classing.{object_of, for_object}
use Rattle.judge_text.specs.declared.counting.Counts.{Counts}
use Rattle.judge_text.specs.declared.fault.CallFault.{CallFault}
use Rattle.judge_text.specs.declared.judging.TextVerdict.{TextVerdict}
use Rattle.judge_text.specs.declared.judging.TextVerdict.TheVariants.{Fault, Judged}
use Rattle.judge_text.specs.declared.verdict.Outcome.{Outcome}
use Rattle.judge_text.specs.declared.verdict.Outcome.TheVariants as outcome
use Rattle.judge_text.specs.Faults.{fault_name}
use Rattle.judge_text.specs.Quoting.{quoted}

-- the text of the verdict that a line is no call: the name of its fault and its number
abbrev pub fault_text : ℕ → CallFault → List ℕ
fault_text number fault =
    codes "fault " ++ fault_name fault ++ as_line (codes " " ++ decimal number)

-- the text of the verdict that a history is legal
abbrev pub legal_text : Counts → List ℕ
legal_text counts =
    codes "legal calls=" ++ decimal counts.calls ++ codes " clients=" ++ decimal counts.clients
    ++ as_line (codes " objects=" ++ decimal counts.objects)

-- the text of the verdict that the call at a position is out of turn: the number of its line
abbrev pub turn_text : ℕ → List ℕ
turn_text place = as_line (codes "illegal client " ++ decimal (place + 1))

-- the first line of the verdict that the calls of an object have no linearization: the number of a
-- line, and the name of the object
abbrev pub named_text : ℕ → List ℕ → List ℕ
named_text number name =
    codes "illegal part " ++ decimal number ++ codes " " ++ as_line (quoted name)

-- the text of an undecided search: the most completed calls that it placed
abbrev pub open_text : ℕ → List ℕ
open_text most = as_line (codes "undecided " ++ decimal most)

-- the text of a verdict that locality does not decide
abbrev pub touching_text : List ℕ
touching_text = codes "touching\n"

-- the new text is the old one with a text behind it of which a fact holds
pub record IsPrinted (P : List ℕ → Type 0) (old new : List ℕ) : Type 0 where
  pub text : List ℕ
  pub is : new ≡ old ++ text
  pub fact : P text

module _ {O : Type 0} where
  -- the number of the line at a position
  abbrev pub number_at : List (Line O) → ℕ → ℕ
  number_at lines place = get_or (map (λ line. line.number) lines) place 0

  -- the name of the object that the line at a position is for
  abbrev pub object_at : (O → List ℕ) → List (Line O) → ℕ → List ℕ
  object_at name lines place = get_or (map (λ line. name line.op) lines) place []

  -- blocked calls are calls of lines
  abbrev pub AreWithin : {R : Type 0} → List (Line O) → List (Stuck R) → Type 0
  AreWithin lines stuck = All (λ one. one.place < length lines) stuck

module _ {S O R : Type 0} (X : Rules S O R) where
  -- the line of a blocked call: the number of its line, and the reply that the object would give
  abbrev pub stuck_line : ℕ → R → List ℕ
  stuck_line number expected =
      codes "stuck " ++ decimal number ++ codes " " ++ as_line (X.text expected)

  abbrev pub stuck_text : List (Line O) → Stuck R → List ℕ
  stuck_text lines one = stuck_line (number_at lines one.place) one.expected

module _ {O R : Type 0} (name : O → List ℕ) where
  -- the line of the first blocked call
  abbrev pub first_text : List (Line O) → Stuck R → List ℕ
  first_text lines first =
      named_text (number_at lines first.place) (object_at name lines first.place)

  -- the first line, if a call is blocked
  abbrev pub part_text : List (Line O) → List (Stuck R) → List ℕ
  part_text lines [] = []
  part_text lines (first ∷ rest) = first_text lines first

module _ {S O R : Type 0} (X : Rules S O R) (name : O → List ℕ) where
  -- the text of the verdict that the calls of an object have no linearization: the first of the
  -- completed calls that may come next at the point of the verdict, and then each of them
  pub record IsBlockedText (blocked : Blocked O S) (text : List ℕ) : Type 0 where
    pub stuck : List (Stuck R)
    pub are : AreStuck X blocked.point.machine (made_of blocked.point)
        (calls_of blocked.calls.lines.items) stuck
    pub is : text ≡ part_text name blocked.calls.lines.items stuck
        ++ flat_map (stuck_text X blocked.calls.lines.items) stuck

  -- the text of a verdict on calls with these counts
  abbrev pub IsTextOn : Counts → Verdict O S → List ℕ → Type 0
  IsTextOn counts verdict.Linearizable text = text ≡ legal_text counts
  IsTextOn counts (verdict.OutOfTurn place) text = text ≡ turn_text place
  IsTextOn counts (verdict.NotLinearizable blocked) text = IsBlockedText blocked text
  IsTextOn counts (verdict.Unknown open_) text = text ≡ open_text open_.most
  IsTextOn counts verdict.Touching text = text ≡ touching_text

module _ {S O R : Type 0} (X : Rules S O R) (name : O → List ℕ) where
  -- the text of a verdict on a text
  abbrev pub IsTextOf : TextVerdict O S → List ℕ → Type 0
  IsTextOf (Fault number fault) text = text ≡ fault_text number fault
  IsTextOf (Judged names counts v) text =
      IsTextOn X (for_object (object_of names) name) counts v text

module _ {S O : Type 0} where
  -- a call that is out of turn is one of the calls that are counted
  abbrev pub HasPlace : Counts → Verdict O S → Type 0
  HasPlace counts (verdict.OutOfTurn place) = place < counts.calls
  HasPlace counts verdict.Linearizable = ⊤
  HasPlace counts (verdict.NotLinearizable blocked) = ⊤
  HasPlace counts (verdict.Unknown open_) = ⊤
  HasPlace counts verdict.Touching = ⊤

  abbrev pub HasPlaceIn : TextVerdict O S → Type 0
  HasPlaceIn (Fault number fault) = ⊤
  HasPlaceIn (Judged names counts v) = HasPlace counts v

  -- the kind of a verdict on calls
  abbrev pub kind_of : Verdict O S → Outcome
  kind_of verdict.Linearizable = outcome.Legal
  kind_of (verdict.OutOfTurn place) = outcome.Illegal
  kind_of (verdict.NotLinearizable blocked) = outcome.Illegal
  kind_of (verdict.Unknown open_) = outcome.Undecided
  kind_of verdict.Touching = outcome.Undecided

  -- the kind of a verdict on a text
  abbrev pub outcome_of : TextVerdict O S → Outcome
  outcome_of (Fault number fault) = outcome.Illegal
  outcome_of (Judged names counts v) = kind_of v
