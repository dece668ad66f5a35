-- Loads whose aborted attempts read the images of their read versions, and the verdict on their
-- text.
use Rattle.std.specs.Prelude.{◌≡◌, ◌↔◌, ◌≤◌, ℕ, true, false, List, map}
use Rattle.tx_memory.specs.Image.{In}
use Rattle.tx_alloc.specs.Pool.{heap_words}
use Rattle.stm_core.specs.Client.{Record}
use Rattle.vac_model.specs.declared.limits.TheConstants.{MOST_BLOCKS}
use Rattle.vac_manager.specs.declared.note.TracedAttempt.{TracedAttempt}
use Rattle.judge_object.specs.Laws.{TakeTurns, KeepPrecedence}
use Rattle.judge_opacity.specs.Laws.{EachIsLegal}
use Rattle.judge_opacity.specs.Verdict.{finding_on, is_opaque}
use Rattle.stm_core.specs.History.{image_upto}
use Rattle.load_record.specs.Lines.{AttemptEntry, lines_text}
use Rattle.load_record.specs.Entries.{attempt_of, span_of_entry, AllFit}
use Rattle.load_record.specs.Pages.{Page, calls_on}
use Rattle.load_record.specs.Text.{AreAttempts}
use Rattle.load_record.specs.Records.{ReadsImage}
use Rattle.load_record.specs.Loads.{MadeHistory}

-- the attempt reads the image of its version in the history
pub record ReadsAtItsPlace (image : List ℕ) (history : List Record) (a : TracedAttempt)
    : Type 0 where
  -- the commit position of the attempt is that of a reader
  pub reader : a.place.wrote ≡ false
  -- the attempt reads the image that the writes of all records up to its version leave
  pub reads : ReadsImage (image_upto image a.place.renewal a.place.version history) a

-- each aborted attempt on these pages reads the image of its version in the history
abbrev pub AbortedReadAtTheirPlaces : List ℕ → List Record → List Page → Type 0
AbortedReadAtTheirPlaces image history pages = (page : Page) → In page pages →
    (a : TracedAttempt) → In a page.given_up → ReadsAtItsPlace image history a

-- the attempts of each client do not overlap and are in their order, and no attempt comes before
-- an attempt that had ended before it began
pub record TimesAreRight (all : List AttemptEntry) : Type 0 where
  pub turns : TakeTurns span_of_entry all
  pub precedence : KeepPrecedence span_of_entry all

-- the judge calls the text of the attempts opaque, at as many words as the heap has, if and only if
-- the times are right
abbrev pub JudgedByTimes : ℕ → List AttemptEntry → Type 0
JudgedByTimes blocks all =
    (is_opaque (finding_on (heap_words blocks) (lines_text all)) ≡ true) ↔ TimesAreRight all

-- if the completed calls of a load made a history, each aborted attempt reads the image of its
-- version in this history, and the judge can read the attempts at the words of the heap, then all
-- attempts are legal, and their text is opaque for the judge if and only if the times are right
-- Not said: that the times of a load are right.
abbrev pub LoadsAreJudgedByTimes : Type 0
LoadsAreJudgedByTimes = (blocks : ℕ) (pages : List Page) (all : List AttemptEntry) →
    blocks ≤ MOST_BLOCKS → AreAttempts blocks pages all → AllFit (heap_words blocks) all →
    (made : MadeHistory blocks (calls_on pages)) →
    AbortedReadAtTheirPlaces made.image made.history pages →
    EachIsLegal (map attempt_of all) × JudgedByTimes blocks all
