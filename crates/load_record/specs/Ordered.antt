-- Which attempts are made serially because they are written in the order of their records.
use Rattle.std.specs.Prelude.{◌≡◌, ℕ, List, [], ◌∷◌, ◌++◌}
use Rattle.stm_core.specs.Client.{Record}
use Rattle.stm_core.specs.History.{Serial}
use Rattle.stm_core.specs.Invariant.{Sorted}
use Rattle.judge_object.specs.Laws.{TakeTurns}
use Rattle.vac_manager.specs.declared.note.TracedAttempt.{TracedAttempt}
use Rattle.vac_manager.specs.Legal.{AreVersioned}
use Rattle.vac_manager.specs.Tracing.{trace_of, IsTraceOf}
use Rattle.load_record.specs.Laying.{writes_from, done_by}
use Rattle.load_record.specs.Lines.{AttemptEntry}
use Rattle.load_record.specs.AttemptOrder.{EntriesAreOrdered}
use Rattle.load_record.specs.Entries.{span_of_entry, AllFit}
use Rattle.load_record.specs.Judged.{JudgedByPrecedence}
use Rattle.load_record.specs.Records.{committed_notes, AreMadeSerially, AbortedReadInPlace}

-- the attempts and the records correspond one to one, in any order, and each attempt made its
-- record
abbrev pub CorrespondTo : List TracedAttempt → List Record → Type 0
CorrespondTo [] records = records ≡ []
CorrespondTo (a ∷ notes) records =
    (first : List Record) × (r : Record) × (more : List Record) × (records ≡ first ++ r ∷ more)
    × IsTraceOf (trace_of a) r × CorrespondTo notes (first ++ more)

-- the first committed attempts write the image, and the others made the records of this history, in
-- any order: the history is serial from the image and sorted, and has one writer a version and
-- readers that wrote nothing
pub record AreOfHistory (image : List ℕ) (history : List Record) (first : List TracedAttempt)
    (all : List AttemptEntry) : Type 0 where
  pub made : List TracedAttempt
  pub committed : committed_notes all ≡ first ++ made
  pub writes : done_by first ≡ writes_from 0 image
  pub traced : CorrespondTo made history
  pub serial : Serial image history
  pub sorted : Sorted history
  pub versioned : AreVersioned history

-- entries that are sorted by commit position, as a load writes them, are made serially if their
-- committed attempts made a history. The readers of one version may stand in another order than
-- their records
abbrev pub OrderedAttemptsAreMadeSerially : Type 0
OrderedAttemptsAreMadeSerially =
    (image : List ℕ) (history : List Record) (first : List TracedAttempt)
    (all : List AttemptEntry) → EntriesAreOrdered all → AreOfHistory image history first all →
    AreMadeSerially image first all

-- the text of such entries that fit, if the aborted attempts read in place and the attempts of
-- each client are in turn, is judged by precedence alone
abbrev pub HistoriesAreOpaqueUpToPrecedence : Type 0
HistoriesAreOpaqueUpToPrecedence =
    (words : ℕ) (image : List ℕ) (history : List Record) (first : List TracedAttempt)
    (all : List AttemptEntry) → AllFit words all → EntriesAreOrdered all →
    AreOfHistory image history first all →
    AbortedReadInPlace image first all → TakeTurns span_of_entry all →
    JudgedByPrecedence words all
