-- The verdict is correct: the verdict is opaque if and only if the given order of the attempts
-- shows that they are opaque (Guerraoui and Kapałka, PPoPP 2008). In such an order each attempt,
-- committed or not, is legal, and the order keeps the order of each client and the order of time.
use Rattle.std.specs.Prelude.{◌≡◌, ◌≢◌, ◌↔◌, ⊤, ◌⊎◌, ℕ, Ok, List, [], ◌∷◌, ◌++◌, map, true, reverse, if◌then◌else◌}
use Rattle.vac_lines.specs.Lines.{lines_of}
use Rattle.judge_object.specs.Laws.{TakeTurns, KeepPrecedence}
use Rattle.judge_opacity.specs.declared.attempt.Access.{Access}
use Rattle.judge_opacity.specs.declared.attempt.Access.TheVariants.{Read, Write}
use Rattle.judge_opacity.specs.declared.finding.Finding.TheVariants.{Opaque}
use Rattle.judge_opacity.specs.Attempt.{Attempt, span_of_attempt, line_attempt}
use Rattle.judge_opacity.specs.Verdict.{finding_on, is_opaque, counts_of}

-- the access is not a write to the word
abbrev pub LeavesWord : ℕ → Access → Type 0
LeavesWord word (Read at value) = ⊤
LeavesWord word (Write at value) = at ≢ word

-- no access of the list is a write to the word
abbrev pub AllLeave : ℕ → List Access → Type 0
AllLeave word [] = ⊤
AllLeave word (access ∷ more) = LeavesWord word access × AllLeave word more

-- the value is the last that the accesses write to the word
pub record IsLastWritten (accesses : List Access) (word value : ℕ) : Type 0 where
  pub before : List Access
  pub after : List Access
  pub split : accesses ≡ before ++ Write word value ∷ after
  pub last : AllLeave word after

-- after these accesses, on words that are all 0, the word has this value: the value last written
-- to the word, or 0 if none was written
abbrev pub HasWord : List Access → ℕ → ℕ → Type 0
HasWord accesses word value =
    IsLastWritten accesses word value ⊎ (AllLeave word accesses × (value ≡ 0))

-- each read gives the value that its word has at that point
abbrev pub ReadsAreLegal : List Access → Type 0
ReadsAreLegal accesses = (before after : List Access) (word value : ℕ) →
    accesses ≡ before ++ Read word value ∷ after → HasWord before word value

-- the accesses of the committed attempts, in their order
abbrev pub committed : List Attempt → List Access
committed [] = []
committed (attempt ∷ more) =
    if attempt.commits then attempt.accesses ++ committed more else committed more

-- the accesses that an attempt can see: those of the committed attempts before it, then its own
abbrev pub visible : List Attempt → Attempt → List Access
visible before attempt = committed before ++ attempt.accesses

-- each attempt, committed or not, reads the values that the committed attempts before it and its
-- own writes leave
abbrev pub EachIsLegal : List Attempt → Type 0
EachIsLegal attempts = (before after : List Attempt) (attempt : Attempt) →
    attempts ≡ before ++ attempt ∷ after → ReadsAreLegal (visible before attempt)

-- the order of the attempts shows that they are opaque: each attempt is legal, the attempts of
-- each client do not overlap and are in their order, and no attempt comes before an attempt that
-- had ended before it began
pub record IsOpaqueOrder (attempts : List Attempt) : Type 0 where
  pub legal : EachIsLegal attempts
  pub turns : TakeTurns span_of_attempt attempts
  pub precedence : KeepPrecedence span_of_attempt attempts

-- each line of a text is an attempt at this many words, and the attempts are these
abbrev pub ListsAttempts : ℕ → List ℕ → List Attempt → Type 0
ListsAttempts words bytes attempts = map (line_attempt words) (lines_of bytes) ≡ map Ok attempts

-- each line is an attempt, and the order of the lines shows that the attempts are opaque
pub record IsOpaqueText (words : ℕ) (bytes : List ℕ) : Type 0 where
  pub attempts : List Attempt
  pub listed : ListsAttempts words bytes attempts
  pub order : IsOpaqueOrder attempts

-- the verdict on a text is opaque if and only if the text is opaque by its order
abbrev pub OpaqueIsOpacity : Type 0
OpaqueIsOpacity = (words : ℕ) (bytes : List ℕ) →
    (is_opaque (finding_on words bytes) ≡ true) ↔ IsOpaqueText words bytes

-- the verdict on opaque attempts gives the number of attempts, the number of committed attempts
-- and the number of clients
abbrev pub OpaqueCounts : Type 0
OpaqueCounts = (words : ℕ) (bytes : List ℕ) (attempts : List Attempt) →
    ListsAttempts words bytes attempts → IsOpaqueOrder attempts →
    finding_on words bytes ≡ Opaque (counts_of (reverse attempts))
