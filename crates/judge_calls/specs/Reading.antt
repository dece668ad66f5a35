-- The result and the output of judging a history that is read, as a function of all its bytes.
use Rattle.std.specs.Prelude.{◌≡◌, ◌⊎◌, ℕ, Bool, Option, IfSome, List, [], ◌++◌}
use Rattle.std.specs.Io.KnownBytes.{Appends, Consumes, IsAtEnd}
use Rattle.vac_lines.specs.Writing.{AppendsPrefix}
use Rattle.vac_lines.specs.declared.stream_fault.StreamFault.{StreamFault}
use Rattle.vac_lines.specs.declared.stream_fault.StreamFault.TheVariants as fault
use Rattle.judge_calls.specs.declared.verdict.Verdict.{Verdict}
use Rattle.judge_calls.specs.Verdict.{verdict_on, verdict_text, is_legal}

-- enough of the input was read to decide the verdict: all of the input, or a prefix whose verdict
-- holds whatever follows. The verdict is that of the whole input
-- Not said: anything of streams whose bytes no contract describes; that no byte is read after the
-- chunk with the first wrong line, which is read in the code.
pub record HasVerdict (n : ℕ) (unread left : Option (List ℕ)) (verdict : Verdict) : Type 0 where
  pub bytes : List ℕ
  pub consumed : Consumes unread left bytes
  pub of_read : (IsAtEnd left × (verdict_on n bytes ≡ verdict))
      ⊎ ((x : List ℕ) → verdict_on n (bytes ++ x) ≡ verdict)
  pub of_input : IfSome unread (λ input. verdict_on n input ≡ verdict)

-- exactly the verdict was written, and the returned value is true if the verdict is legal
pub record HasJudged (n : ℕ) (legal : Bool) (unread left held holds : Option (List ℕ)) :
    Type 0 where
  pub verdict : Verdict
  pub is : HasVerdict n unread left verdict
  pub answered : legal ≡ is_legal verdict
  pub written : Appends held holds (verdict_text verdict)

-- a prefix of the verdict was written
pub record HasJudgedInPart (n : ℕ) (unread left held holds : Option (List ℕ)) : Type 0 where
  pub verdict : Verdict
  pub is : HasVerdict n unread left verdict
  pub written : AppendsPrefix held holds (verdict_text verdict)

-- a fault ended the judging. After a fault of the output a prefix of the verdict was written,
-- after any other fault nothing
-- Not said: which of Read, Memory and Bound ends the judging before anything is written; that the
-- output failed if Write is returned, since no contract describes the results of a reader or a
-- writer.
abbrev pub HasStoppedJudging : ℕ → StreamFault → Option (List ℕ) → Option (List ℕ) → Option (List ℕ)
    → Option (List ℕ) → Type 0
HasStoppedJudging n fault.Write unread left held holds = HasJudgedInPart n unread left held holds
HasStoppedJudging n fault unread left held holds = Appends held holds []
