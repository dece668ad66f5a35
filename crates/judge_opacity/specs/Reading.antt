-- The result and the output of judging a text of attempts that is read, as a function of all its
-- bytes.
use Rattle.std.specs.Prelude.{◌≡◌, ◌⊎◌, ℕ, Bool, Option, IfSome, List, [], ◌++◌}
use Rattle.std.specs.Io.KnownBytes.{Appends, Consumes, IsAtEnd}
use Rattle.vac_lines.specs.Writing.{AppendsPrefix}
use Rattle.vac_lines.specs.declared.stream_fault.StreamFault.{StreamFault}
use Rattle.vac_lines.specs.declared.stream_fault.StreamFault.TheVariants as fault
use Rattle.judge_opacity.specs.declared.finding.Finding.{Finding}
use Rattle.judge_opacity.specs.Verdict.{finding_on, finding_text, is_opaque}

-- enough of the input was read to decide the verdict: all of the input, or a prefix whose verdict
-- holds whatever follows. The verdict is that of the whole input
-- Not said: anything of streams whose bytes no contract describes; that no byte is read after the
-- chunk with the first wrong line, which is read in the code.
pub record HasFinding (words : ℕ) (unread left : Option (List ℕ)) (finding : Finding) : Type 0 where
  pub bytes : List ℕ
  pub consumed : Consumes unread left bytes
  pub of_read : (IsAtEnd left × (finding_on words bytes ≡ finding))
      ⊎ ((x : List ℕ) → finding_on words (bytes ++ x) ≡ finding)
  pub of_input : IfSome unread (λ input. finding_on words input ≡ finding)

-- exactly the verdict was written, and the returned value is true if the verdict is opaque
pub record HasJudgedAttempts (words : ℕ) (opaque : Bool)
    (unread left held holds : Option (List ℕ)) :
    Type 0 where
  pub finding : Finding
  pub is : HasFinding words unread left finding
  pub answered : opaque ≡ is_opaque finding
  pub written : Appends held holds (finding_text finding)

-- a prefix of the verdict was written
pub record HasJudgedAttemptsInPart (words : ℕ) (unread left held holds : Option (List ℕ))
    : Type 0 where
  pub finding : Finding
  pub is : HasFinding words unread left finding
  pub written : AppendsPrefix held holds (finding_text finding)

-- a fault ended the judging. After a fault of the output a prefix of the verdict was written,
-- after any other fault nothing
-- Not said: which of Read, Memory and Bound ends the judging before anything is written; that the
-- output failed if Write is returned, since no contract describes the results of a reader or a
-- writer.
abbrev pub HasStoppedOnAttempts : ℕ → StreamFault → Option (List ℕ) → Option (List ℕ)
    → Option (List ℕ)
    → Option (List ℕ) → Type 0
HasStoppedOnAttempts words fault.Write unread left held holds =
    HasJudgedAttemptsInPart words unread left held holds
HasStoppedOnAttempts words fault unread left held holds = Appends held holds []
