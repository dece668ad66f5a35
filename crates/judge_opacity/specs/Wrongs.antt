-- The verdict names the right line. The order of the lines before it shows that the attempts are
-- opaque, and with it the order does not. The cause is the first one, in the order in which the
-- judge looks for causes.
use Rattle.std.specs.Prelude.{◌≡◌, ◌≢◌, ◌↔◌, ℕ, ◌+◌, Ok, Err, Result, List, [], ◌∷◌, ◌++◌, map, length}
use Rattle.vac_lines.specs.declared.fault.LineFault.{LineFault}
use Rattle.vac_lines.specs.Lines.{lines_of}
use Rattle.judge_object.specs.Laws.{TakeTurns, KeepPrecedence, IsMisplaced}
use Rattle.judge_opacity.specs.declared.attempt.Access.{Access}
use Rattle.judge_opacity.specs.declared.attempt.Access.TheVariants.{Read}
use Rattle.judge_opacity.specs.declared.finding.AttemptViolation.{AttemptViolation}
use Rattle.judge_opacity.specs.declared.finding.AttemptViolation.TheVariants as violation
use Rattle.judge_opacity.specs.declared.finding.Finding.TheVariants.{Fault, Illegal}
use Rattle.judge_opacity.specs.Attempt.{Attempt, span_of_attempt, line_attempt}
use Rattle.judge_opacity.specs.Verdict.{finding_on}
use Rattle.judge_opacity.specs.Laws.{HasWord, ReadsAreLegal, IsOpaqueOrder, committed}

-- the first read of an attempt that is not legal after these attempts is at this word, which has
-- the expected value at that point
pub record IsWrongRead (attempts : List Attempt) (attempt : Attempt) (word expected : ℕ) :
    Type 0 where
  pub own : List Access
  pub value : ℕ
  pub later : List Access
  pub split : attempt.accesses ≡ own ++ Read word value ∷ later
  pub first : ReadsAreLegal (committed attempts ++ own)
  pub has : HasWord (committed attempts ++ own) word expected
  pub other : value ≢ expected

-- the reason why no opaque order goes on from these attempts with this attempt. The turns of
-- clients are checked first, then the times, then the reads
abbrev pub IsViolation : List Attempt → Attempt → AttemptViolation → Type 0
IsViolation attempts attempt (violation.Place wrong) =
    IsMisplaced span_of_attempt attempts attempt wrong
IsViolation attempts attempt (violation.Read word expected) =
    TakeTurns span_of_attempt (attempts ++ attempt ∷ [])
    × KeepPrecedence span_of_attempt (attempts ++ attempt ∷ [])
    × IsWrongRead attempts attempt word expected

-- the line is the first wrong line, and its attempt is wrong for this reason
pub record IsFirstWrongAttempt (words : ℕ) (bytes : List ℕ) (line : ℕ)
    (violation : AttemptViolation)
    : Type 0 where
  pub before : List Attempt
  pub attempt : Attempt
  pub rest : List (Result Attempt LineFault)
  pub listed : map (line_attempt words) (lines_of bytes) ≡ map Ok before ++ Ok attempt ∷ rest
  pub number : line ≡ length before + 1
  pub opaque : IsOpaqueOrder before
  pub illegal : IsOpaqueOrder (before ++ attempt ∷ []) → ⊥
  pub cause : IsViolation before attempt violation

-- the verdict calls a line illegal if and only if the line is the first wrong line
abbrev pub IllegalIsFirstWrongAttempt : Type 0
IllegalIsFirstWrongAttempt = (words : ℕ) (bytes : List ℕ) (line : ℕ)
    (violation : AttemptViolation) →
    (finding_on words bytes ≡ Illegal line violation) ↔ IsFirstWrongAttempt words bytes line
    violation

-- the line is no attempt, and the order of the lines before it shows that the attempts are opaque
pub record IsFirstNoAttempt (words : ℕ) (bytes : List ℕ) (line : ℕ) (fault : LineFault)
    : Type 0 where
  pub before : List Attempt
  pub rest : List (Result Attempt LineFault)
  pub listed : map (line_attempt words) (lines_of bytes) ≡ map Ok before ++ Err fault ∷ rest
  pub number : line ≡ length before + 1
  pub opaque : IsOpaqueOrder before

-- the verdict is the fault of a line if and only if the line is the first that is no attempt, and
-- the order of the lines before it is opaque
abbrev pub FaultIsFirstNoAttempt : Type 0
FaultIsFirstNoAttempt = (words : ℕ) (bytes : List ℕ) (line : ℕ) (fault : LineFault) →
    (finding_on words bytes ≡ Fault line fault) ↔ IsFirstNoAttempt words bytes line fault
