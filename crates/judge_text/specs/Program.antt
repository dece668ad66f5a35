-- The result and the output of judging a history that is read, as a relation on all its bytes.
use Rattle.std.specs.Prelude.{◌≡◌, ◌⊎◌, ℕ, Option, List, [], codes}
use Rattle.std.specs.Io.KnownBytes.{Appends, Consumes, IsAtEnd}
use Rattle.vac_lines.specs.Script.{as_line}
use Rattle.vac_lines.specs.Writing.{AppendsPrefix}
use Rattle.vac_lines.specs.declared.stream_fault.StreamFault.{StreamFault}
use Rattle.vac_lines.specs.declared.stream_fault.StreamFault.TheVariants as fault
use Rattle.judge_object.specs.Rules.{Rules}
use Rattle.judge_object.specs.Call.{Call}
use Rattle.judge_text.specs.declared.judging.TextVerdict.{TextVerdict}
use Rattle.judge_text.specs.declared.settings.Settings.{Settings}
use Rattle.judge_text.specs.declared.verdict.Outcome.{Outcome}
use Rattle.judge_text.specs.declared.verdict.Outcome.TheVariants as outcome
use Rattle.judge_text.specs.Language.{Language}
use Rattle.judge_text.specs.Judging.{IsVerdictOnText, DecidesLegal}
use Rattle.judge_text.specs.Texts.{IsTextOf, outcome_of}
use Rattle.judge_text.specs.Naming.{NamesIfBlocked}

-- the input had these bytes and was read to its end
-- Not said: anything of streams whose bytes no contract describes.
pub record HasRead (unread left : Option (List ℕ)) (bytes : List ℕ) : Type 0 where
  pub consumed : Consumes unread left bytes
  pub ended : IsAtEnd left

-- the status of the program after a verdict
abbrev pub status_of : Outcome → ℕ
status_of outcome.Legal = 0
status_of outcome.Illegal = 1
status_of outcome.Undecided = 3

-- the last line after a fault; there is none if the output failed
abbrev pub fault_line : StreamFault → List ℕ
fault_line fault.Read = as_line (codes "fault read")
fault_line fault.Write = []
fault_line fault.Memory = as_line (codes "fault memory")
fault_line fault.Bound = as_line (codes "fault bound")

module _ {S O R : Type 0} (X : Rules S O R) (name : O → List ℕ)
    (naming : List (Call O) → (List ℕ → List ℕ) → Type 0) (L : Language O R)
    (s : List ℕ → S) (how : Settings) where
  -- some verdict holds of the bytes; this is its kind, and this its text, which names a blocked
  -- call if the calls of an object have no linearization
  pub record JudgesText (bytes : List ℕ) (result : Outcome) (text : List ℕ) : Type 0 where
    pub verdict : TextVerdict O S
    pub is : IsVerdictOnText X name naming L s bytes how verdict
    pub decides : DecidesLegal X name naming L how.level s bytes verdict
    pub kind : result ≡ outcome_of verdict
    pub text_is : IsTextOf X name verdict text
    pub names : NamesIfBlocked X name L how.level s bytes verdict text

  -- the input was read to its end, exactly the text of a verdict on its bytes was written, and the
  -- kind of that verdict was returned
  pub record HasJudged (result : Outcome) (unread left held holds : Option (List ℕ)) : Type 0 where
    pub bytes : List ℕ
    pub read : HasRead unread left bytes
    pub text : List ℕ
    pub judged : JudgesText bytes result text
    pub written : Appends held holds text

  -- the input was read to its end, and a prefix of the text of a verdict on its bytes was written
  pub record HasJudgedInPart (unread left held holds : Option (List ℕ)) : Type 0 where
    pub bytes : List ℕ
    pub read : HasRead unread left bytes
    pub result : Outcome
    pub text : List ℕ
    pub judged : JudgesText bytes result text
    pub written : AppendsPrefix held holds text

  -- a fault ended the judging. After a fault of the output a prefix of the text was written, after
  -- any other fault nothing
  -- Not said: which of Read, Memory and Bound ends the judging; that the output failed if Write is
  -- returned, since no contract describes the results of a reader or a writer.
  abbrev pub HasStopped : StreamFault → Option (List ℕ) → Option (List ℕ) → Option (List ℕ)
      → Option (List ℕ) → Type 0
  HasStopped fault.Write unread left held holds = HasJudgedInPart unread left held holds
  HasStopped fault unread left held holds = Appends held holds []

  -- the program judged, and the status is that of the verdict
  pub record HasEndedJudged (status : ℕ) (unread left held holds : Option (List ℕ)) : Type 0 where
    pub result : Outcome
    pub status_is : status ≡ status_of result
    pub judged : HasJudged result unread left held holds

  -- a fault stopped the program. Behind what was written before it stands a prefix of the line that
  -- names the fault
  pub record HasEndedByFault (status : ℕ) (unread left held holds : Option (List ℕ)) : Type 0 where
    pub fault : StreamFault
    pub status_is : status ≡ 4
    pub middle : Option (List ℕ)
    pub stopped : HasStopped fault unread left held middle
    pub line : AppendsPrefix middle holds (fault_line fault)

  -- the program judged, or a fault stopped it
  abbrev pub HasEnded : ℕ → Option (List ℕ) → Option (List ℕ) → Option (List ℕ)
      → Option (List ℕ) → Type 0
  HasEnded status unread left held holds =
      HasEndedJudged status unread left held holds
      ⊎ HasEndedByFault status unread left held holds
