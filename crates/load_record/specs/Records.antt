-- Which attempts are legal because their records are serial.
use Rattle.std.specs.Prelude.{◌≡◌, ◌↔◌, ℕ, Bool, true, false, Some, List, [], ◌∷◌, ◌++◌, map, if◌then◌else◌}
use Rattle.std.specs.FinMap.{get, empty, entries}
use Rattle.tx_memory.specs.Image.{Has, laid}
use Rattle.tx_memory.specs.Accesses.{reads_behind, writes_behind, are_right}
use Rattle.stm_core.specs.Client.{Record}
use Rattle.stm_core.specs.History.{Serial}
use Rattle.vac_manager.specs.declared.note.TracedAttempt.{TracedAttempt}
use Rattle.vac_manager.specs.Tracing.{trace_of, IsTraceOf}
use Rattle.judge_opacity.specs.Attempt.{Attempt}
use Rattle.judge_opacity.specs.Laws.{ReadsAreLegal, visible, EachIsLegal}
use Rattle.load_record.specs.Laying.{writes_from, done_by}
use Rattle.load_record.specs.Lines.{AttemptEntry}
use Rattle.load_record.specs.Entries.{attempt_of}

-- each attempt with this outcome reads the values that the committed attempts before it and its
-- own writes leave
abbrev pub AreLegalOf : Bool → List Attempt → Type 0
AreLegalOf commits attempts = (before after : List Attempt) (attempt : Attempt) →
    attempts ≡ before ++ attempt ∷ after → attempt.commits ≡ commits
    → ReadsAreLegal (visible before attempt)

-- each committed attempt is legal
abbrev pub CommittedAreLegal : List Attempt → Type 0
CommittedAreLegal attempts = AreLegalOf true attempts

-- each aborted attempt is legal
abbrev pub AbortedAreLegal : List Attempt → Type 0
AbortedAreLegal attempts = AreLegalOf false attempts

-- all attempts are legal if and only if the committed ones and the aborted ones are
abbrev pub OutcomesAreJudgedApart : Type 0
OutcomesAreJudgedApart = (attempts : List Attempt) →
    EachIsLegal attempts ↔ (CommittedAreLegal attempts × AbortedAreLegal attempts)

-- the attempts that committed, in their order
abbrev pub committed_notes : List AttemptEntry → List TracedAttempt
committed_notes [] = []
committed_notes (e ∷ more) =
    if e.attempt.commits then e.attempt ∷ committed_notes more else committed_notes more

-- the attempts made these records, one attempt for each record, in this order
abbrev pub AreTracesOf : List TracedAttempt → List Record → Type 0
AreTracesOf [] records = records ≡ []
AreTracesOf (a ∷ more) [] = ⊥
AreTracesOf (a ∷ more) (r ∷ records) = IsTraceOf (trace_of a) r × AreTracesOf more records

-- the first committed attempts write exactly those words of the image that are not 0, and do
-- nothing else; the other committed attempts made records that are serial from the image
pub record AreMadeSerially (image : List ℕ) (first : List TracedAttempt) (all : List AttemptEntry)
    : Type 0 where
  pub made : List TracedAttempt
  pub committed : committed_notes all ≡ first ++ made
  pub writes : done_by first ≡ writes_from 0 image
  pub records : List Record
  pub traced : AreTracesOf made records
  pub serial : Serial image records

-- if the committed attempts are made serially, then each of them is legal
abbrev pub SerialAttemptsAreLegal : Type 0
SerialAttemptsAreLegal = (image : List ℕ) (first : List TracedAttempt) (all : List AttemptEntry) →
    AreMadeSerially image first all → CommittedAreLegal (map attempt_of all)

-- the attempt reads this image: each word that it read before writing the word has the value read,
-- and each other read gives what the attempt wrote
pub record ReadsImage (image : List ℕ) (a : TracedAttempt) : Type 0 where
  pub agrees : (address value : ℕ) →
      get (reads_behind empty empty a.accesses.items) address ≡ Some value
      → Has image address value
  pub right : are_right empty empty a.accesses.items ≡ true

-- the image after the writes of these attempts, one attempt after the other
abbrev pub image_left : List ℕ → List TracedAttempt → List ℕ
image_left image [] = image
image_left image (a ∷ more) =
    image_left (laid image (entries (writes_behind empty a.accesses.items))) more

-- after these entries the attempt reads the image that their committed attempts leave; the first
-- of them write the image at the beginning
pub record ReadsInPlace (image : List ℕ) (first : List TracedAttempt) (before : List AttemptEntry)
    (a : TracedAttempt) : Type 0 where
  pub made : List TracedAttempt
  pub committed : committed_notes before ≡ first ++ made
  pub reads : ReadsImage (image_left image made) a

-- each aborted attempt reads the image that the committed attempts before it leave
abbrev pub AbortedReadInPlace : List ℕ → List TracedAttempt → List AttemptEntry → Type 0
AbortedReadInPlace image first all = (before after : List AttemptEntry) (e : AttemptEntry) →
    all ≡ before ++ e ∷ after → e.attempt.commits ≡ false →
    ReadsInPlace image first before e.attempt

-- if the committed attempts are made serially and the aborted ones read in place, then all
-- attempts are legal
-- Not said: that the aborted attempts of a load read in place. `LoadsAreJudgedByTimes` says from
-- what their legality follows.
abbrev pub AttemptsInPlaceAreLegal : Type 0
AttemptsInPlaceAreLegal = (image : List ℕ) (first : List TracedAttempt) (all : List AttemptEntry) →
    AreMadeSerially image first all → AbortedReadInPlace image first all →
    EachIsLegal (map attempt_of all)
