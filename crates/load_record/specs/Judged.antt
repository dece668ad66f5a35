-- The verdict of the judge of opacity on the text of a load's attempts.
use Rattle.std.specs.Prelude.{◌≡◌, ◌↔◌, ℕ, true, List, map}
use Rattle.judge_object.specs.Laws.{TakeTurns, KeepPrecedence}
use Rattle.judge_opacity.specs.Laws.{EachIsLegal, ListsAttempts}
use Rattle.judge_opacity.specs.Verdict.{finding_on, is_opaque}
use Rattle.load_record.specs.Lines.{AttemptEntry, lines_text}
use Rattle.load_record.specs.Entries.{attempt_of, span_of_entry, AllFit}

-- the text of entries that fit is read back as their attempts, one attempt a line
abbrev pub AttemptTextsAreRead : Type 0
AttemptTextsAreRead = (words : ℕ) (entries : List AttemptEntry) → AllFit words entries →
    ListsAttempts words (lines_text entries) (map attempt_of entries)

-- the attempts of the entries are opaque in this order: each attempt, committed or not, is legal;
-- the attempts of each client do not overlap and are in their order; and no attempt comes before
-- an attempt that had ended before it began
pub record AreOpaqueEntries (entries : List AttemptEntry) : Type 0 where
  pub legal : EachIsLegal (map attempt_of entries)
  pub turns : TakeTurns span_of_entry entries
  pub precedence : KeepPrecedence span_of_entry entries

-- the text of entries that fit is opaque for the judge if and only if the attempts of the entries
-- are opaque in this order
abbrev pub TextsAreJudgedByTheirEntries : Type 0
TextsAreJudgedByTheirEntries = (words : ℕ) (entries : List AttemptEntry) → AllFit words entries →
    (is_opaque (finding_on words (lines_text entries)) ≡ true) ↔ AreOpaqueEntries entries

-- the text of the entries is opaque for the judge if and only if no attempt comes before an
-- attempt that had ended before it began
abbrev pub JudgedByPrecedence : ℕ → List AttemptEntry → Type 0
JudgedByPrecedence words entries =
    (is_opaque (finding_on words (lines_text entries)) ≡ true)
    ↔ KeepPrecedence span_of_entry entries

-- the text of entries that fit, whose attempts are legal and those of each client in turn, is
-- judged by precedence alone
-- Not said: that the order keeps precedence. The clock readings of two clients do not show which
-- of them read first.
abbrev pub TextsAreOpaqueUpToPrecedence : Type 0
TextsAreOpaqueUpToPrecedence = (words : ℕ) (entries : List AttemptEntry) → AllFit words entries →
    EachIsLegal (map attempt_of entries) → TakeTurns span_of_entry entries →
    JudgedByPrecedence words entries
