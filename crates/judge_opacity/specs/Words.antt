-- The words that attempts leave, and the first wrong read of an attempt. All words are 0 at the
-- beginning.
use Rattle.std.specs.Prelude.{ℕ, ◌==◌, Option, Some, None, List, [], ◌∷◌, if◌then◌else◌}
use Rattle.judge_opacity.specs.declared.attempt.Access.{Access}
use Rattle.judge_opacity.specs.declared.attempt.Access.TheVariants.{Read, Write}
use Rattle.judge_opacity.specs.declared.finding.AttemptViolation.{AttemptViolation}
use Rattle.judge_opacity.specs.declared.finding.AttemptViolation.TheVariants as violation
use Rattle.judge_opacity.specs.Attempt.{Attempt}

-- the value of each word
abbrev pub Image : Type 0
Image = ℕ → ℕ

-- the image at the beginning: all words are 0
abbrev pub zeros : Image
zeros word = 0

-- the image with another value at one word
abbrev pub image_with : Image → ℕ → ℕ → Image
image_with image word value = λ other. if word == other then value else image other

-- the image after an access
abbrev pub after_access : Image → Access → Image
after_access image (Read word value) = image
after_access image (Write word value) = image_with image word value

-- the image after some accesses, one after the other
abbrev pub words_after : Image → List Access → Image
words_after image [] = image
words_after image (access ∷ more) = words_after (after_access image access) more

-- the image after the committed ones of some attempts, which are listed from the newest on
abbrev pub left_by : List Attempt → Image
left_by [] = zeros
left_by (attempt ∷ earlier) =
    if attempt.commits then words_after (left_by earlier) attempt.accesses else left_by earlier

-- the violation of a read of this value at a word that has another value; otherwise the rest
-- decides
abbrev pub unless_same : ℕ → ℕ → ℕ → Option AttemptViolation → Option AttemptViolation
unless_same word value is rest =
    if value == is then rest else Some (violation.Read word is)

-- the first read among the accesses that gives another value than its word has at that point
abbrev pub wrong_read : Image → List Access → Option AttemptViolation
wrong_read image [] = None
wrong_read image (Read word value ∷ more) =
    unless_same word value (image word) (wrong_read image more)
wrong_read image (Write word value ∷ more) = wrong_read (image_with image word value) more
