-- Conditions for an opaque text that the attempts of a load meet, and the verdict on their text.
use Rattle.std.specs.Prelude.{◌≡◌, ◌↔◌, ◌≤◌, ℕ, true, List, ◌++◌, map}
use Rattle.stm_core.specs.Client.{Record}
use Rattle.stm_core.specs.History.{Serial}
use Rattle.stm_core.specs.Invariant.{Sorted}
use Rattle.tx_alloc.specs.Pool.{heap_words}
use Rattle.tx_alloc.specs.Spread.{IsSpreadHeap}
use Rattle.vac_model.specs.declared.limits.TheConstants.{MOST_BLOCKS}
use Rattle.judge_object.specs.Laws.{TakeTurns, KeepPrecedence}
use Rattle.judge_opacity.specs.Verdict.{finding_on, is_opaque}
use Rattle.vac_manager.specs.Legal.{AreVersioned}
use Rattle.vac_manager.specs.declared.note.CompletedCall.{CompletedCall}
use Rattle.vac_manager.specs.declared.note.TracedAttempt.{TracedAttempt}
use Rattle.load_record.specs.Laying.{writes_from, done_by}
use Rattle.load_record.specs.Lines.{AttemptEntry, lines_text}
use Rattle.load_record.specs.AttemptOrder.{EntriesAreOrdered}
use Rattle.load_record.specs.Legal.{AreCallsOf}
use Rattle.load_record.specs.Pages.{Page, attempt_entries_of, calls_on}
use Rattle.load_record.specs.Text.{AreAttempts}
use Rattle.load_record.specs.Entries.{attempt_of, span_of_entry, AllFit}
use Rattle.load_record.specs.Records.{committed_notes, AbortedAreLegal}
use Rattle.load_record.specs.Ordered.{AreOfHistory}

-- the attempts are sorted, and the first lines of their text are the attempts of client 0 that
-- write the words of a partitioned heap, in the order of the addresses. So these are the first
-- committed attempts
-- Not said: anything of the other attempts.
pub record BeginWithHeap (blocks : ℕ) (all : List AttemptEntry) : Type 0 where
  pub sorted : EntriesAreOrdered all
  pub image : List ℕ
  pub heap : IsSpreadHeap image blocks
  pub first : List TracedAttempt
  pub rest : List AttemptEntry
  pub text : lines_text all ≡ lines_text (attempt_entries_of 0 first) ++ lines_text rest
  pub committed : committed_notes all ≡ first ++ committed_notes rest
  pub writes : done_by first ≡ writes_from 0 image
  pub fits : AllFit (heap_words blocks) (attempt_entries_of 0 first)

-- the attempts of a load on a system with this number of blocks begin with the words of its heap,
-- and the judge can read these lines at as many words as the heap has
abbrev pub LoadsBeginWithTheirHeap : Type 0
LoadsBeginWithTheirHeap = (blocks : ℕ) (pages : List Page) (all : List AttemptEntry) →
    blocks ≤ MOST_BLOCKS → AreAttempts blocks pages all → BeginWithHeap blocks all

-- the calls made the records of a history of a system with this number of blocks, one call for
-- each record, in any order: the history is serial from the words of a partitioned heap and
-- sorted, and has one writer a version and readers that wrote nothing
pub record MadeHistory (blocks : ℕ) (calls : List CompletedCall) : Type 0 where
  pub image : List ℕ
  pub heap : IsSpreadHeap image blocks
  pub history : List Record
  pub made : AreCallsOf calls history
  pub serial : Serial image history
  pub sorted : Sorted history
  pub versioned : AreVersioned history

-- the first committed attempts write this image, and the others made the records of this history,
-- which is serial from the image
pub record MadeHistoryFrom (image : List ℕ) (history : List Record) (all : List AttemptEntry)
    : Type 0 where
  pub first : List TracedAttempt
  pub of_history : AreOfHistory image history first all

-- if the completed calls of a load made a history, then the committed attempts of the load, in the
-- order in which they are written, made this history from the same image
abbrev pub LoadsMakeTheirHistory : Type 0
LoadsMakeTheirHistory = (blocks : ℕ) (pages : List Page) (all : List AttemptEntry) →
    blocks ≤ MOST_BLOCKS → AreAttempts blocks pages all →
    (made : MadeHistory blocks (calls_on pages)) → MadeHistoryFrom made.image made.history all

-- the aborted attempts are legal, the attempts of each client do not overlap and are in their
-- order, and no attempt comes before an attempt that had ended before it began
pub record AbortsAndTimesAreRight (all : List AttemptEntry) : Type 0 where
  pub aborted : AbortedAreLegal (map attempt_of all)
  pub turns : TakeTurns span_of_entry all
  pub precedence : KeepPrecedence span_of_entry all

-- the judge calls the text of the attempts opaque, at as many words as the heap has, if and only if
-- the aborted attempts and the times are right
abbrev pub JudgedByAbortsAndTimes : ℕ → List AttemptEntry → Type 0
JudgedByAbortsAndTimes blocks all =
    (is_opaque (finding_on (heap_words blocks) (lines_text all)) ≡ true)
    ↔ AbortsAndTimesAreRight all

-- if the completed calls of a load made a history, and the judge can read its attempts at the words
-- of its heap, then their text is opaque for the judge if and only if the aborted attempts and the
-- times are right
-- Not said: that the aborted attempts and the times of a load are right.
abbrev pub LoadsAreJudgedByAbortsAndTimes : Type 0
LoadsAreJudgedByAbortsAndTimes = (blocks : ℕ) (pages : List Page) (all : List AttemptEntry) →
    blocks ≤ MOST_BLOCKS → AreAttempts blocks pages all → AllFit (heap_words blocks) all →
    MadeHistory blocks (calls_on pages) → JudgedByAbortsAndTimes blocks all
