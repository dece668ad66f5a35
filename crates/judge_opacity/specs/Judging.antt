-- The effect of a line on a judge of attempts.
use Rattle.std.specs.Prelude.{◌≡◌, ℕ, Option, None, Result, List, ◌∷◌, map, length}
use Rattle.vac_lines.specs.declared.fault.LineFault.{LineFault}
use Rattle.judge_object.specs.Keeping.{Keeps}
use Rattle.judge_opacity.specs.declared.finding.AttemptViolation.{AttemptViolation}
use Rattle.judge_opacity.specs.declared.finding.Finding.{Finding}
use Rattle.judge_opacity.specs.declared.judge.Judge.{Judge}
use Rattle.judge_opacity.specs.Attempt.{Attempt, span_of_attempt}
use Rattle.judge_opacity.specs.Words.{left_by}
use Rattle.judge_opacity.specs.Covered.{image_of}
use Rattle.judge_opacity.specs.Verdict.{violation_of, committed_of, judged_attempts}

-- the judge has judged these attempts, at this many words
pub record FollowsAttempts (words : ℕ) (judge : Judge) (earlier : List Attempt) : Type 0 where
  pub size : length judge.memory.words.items ≡ words
  pub left : image_of judge.memory.words.items ≡ left_by earlier
  pub spans : Keeps judge.spans (map span_of_attempt earlier)
  pub committed : judge.committed ≡ committed_of earlier

-- the first fault of an attempt, or none; an attempt without a fault was taken by the judge
pub record JudgesAttempt (words : ℕ) (after : Judge) (earlier : List Attempt) (attempt : Attempt)
    (found : Option AttemptViolation) : Type 0 where
  pub found_is : violation_of earlier attempt ≡ found
  pub taken : found ≡ None → FollowsAttempts words after (attempt ∷ earlier)

-- the judge has taken a line: the verdict on this line and the following lines is the verdict on
-- the following lines
pub record TakesAttempt (judge after : Judge) (line : ℕ → Result Attempt LineFault) : Type 0 where
  pub on : (words : ℕ) (earlier : List Attempt) → FollowsAttempts words judge earlier →
      (attempts : List Attempt) × FollowsAttempts words after attempts
      × ((more : List (Result Attempt LineFault)) →
      judged_attempts earlier (line words ∷ more) ≡ judged_attempts attempts more)

-- the line decides the verdict, whatever lines follow
pub record DecidesFinding (judge : Judge) (line : ℕ → Result Attempt LineFault)
    (finding : Finding) :
    Type 0 where
  pub on : (words : ℕ) (earlier : List Attempt) → FollowsAttempts words judge earlier →
      (more : List (Result Attempt LineFault))
      → judged_attempts earlier (line words ∷ more) ≡ finding
