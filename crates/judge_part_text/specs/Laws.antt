-- Laws on the text of a part.
use Rattle.std.specs.Prelude.{◌≡◌, ◌≤◌, ℕ, true, false, Some, List}
use Rattle.vac_model.specs.declared.limits.TheConstants.{MOST_BLOCKS}
use Rattle.vac_model.specs.State.{Place, empty_state}
use Rattle.judge_object.specs.Orders.{IsLinearizable}
use Rattle.judge_reservations.specs.declared.scope.Scope.{Scope}
use Rattle.judge_reservations.specs.Largest.{IsScopeOf}
use Rattle.judge_reservations.specs.Reserving.{reserving}
use Rattle.judge_calls.specs.Call.{Call}
use Rattle.judge_calls.specs.CallText.{AreWritten}
use Rattle.judge_calls.specs.Laws.{Lists}
use Rattle.judge_reservations.specs.Histories.{part_of_history}
use Rattle.judge_object.specs.Cut.{cut}
use Rattle.judge_part_text.specs.Parting.{IsTextOfHistory}
use Rattle.judge_part_text.specs.Until.{IsTextOfCut, IsCutTextFor, end_at}

-- if the part whose text was written is not linearizable in a system of the greatest number of
-- blocks, the history is not linearizable in a system of any number of blocks
abbrev pub IllegalPartsShow : Type 0
IllegalPartsShow = (customers : List ℕ) (items : List Place) (bytes text : List ℕ)
    (part : IsTextOfHistory customers items bytes true text) →
    (IsLinearizable reserving (empty_state MOST_BLOCKS)
    (part_of_history part.text_is.scope part.calls) → ⊥) →
    (blocks : ℕ) (calls : List Call) → blocks ≤ MOST_BLOCKS → Lists bytes calls →
    IsLinearizable reserving (empty_state blocks) calls → ⊥

-- as `IllegalPartsShow`, for the calls that are read from the text of the part: each reply of the
-- part is that of some reply, and the line of each task is no longer than a line may be
abbrev pub IllegalTextsShow : Type 0
IllegalTextsShow = (customers : List ℕ) (items : List Place) (bytes text : List ℕ)
    (part : IsTextOfHistory customers items bytes true text) →
    AreWritten (part_of_history part.text_is.scope part.calls) →
    (parts : List Call) → Lists text parts →
    (IsLinearizable reserving (empty_state MOST_BLOCKS) parts → ⊥) →
    (blocks : ℕ) (calls : List Call) → blocks ≤ MOST_BLOCKS → Lists bytes calls →
    IsLinearizable reserving (empty_state blocks) calls → ⊥

-- in a system of some number of blocks the history of these calls, as it stood at the end of the
-- call of a line, is not linearizable, and the history is not
pub record IsIllegalFrom (blocks line : ℕ) (calls : List Call) : Type 0 where
  pub then : (moment : ℕ) → end_at calls line ≡ Some moment →
      IsLinearizable reserving (empty_state blocks) (cut moment calls) → ⊥
  pub whole : IsLinearizable reserving (empty_state blocks) calls → ⊥

-- if the part of a cut whose text was written is not linearizable in a system of the greatest
-- number of blocks, neither the cut nor the history is linearizable in a system of any number of
-- blocks
abbrev pub IllegalPartsUntilShow : Type 0
IllegalPartsUntilShow = (customers : List ℕ) (items : List Place) (line : ℕ) (bytes text : List ℕ)
    (part : IsTextOfCut customers items line bytes true text) →
    (IsLinearizable reserving (empty_state MOST_BLOCKS)
    (part_of_history part.text_is.text_is.scope (cut part.text_is.moment part.calls)) → ⊥) →
    (blocks : ℕ) (calls : List Call) → blocks ≤ MOST_BLOCKS → Lists bytes calls →
    IsIllegalFrom blocks line calls

-- as `IllegalPartsUntilShow`, for the calls that are read from the text of the part: each reply of
-- the part is that of some reply, and the line of each task is no longer than a line may be
abbrev pub IllegalTextsUntilShow : Type 0
IllegalTextsUntilShow = (customers : List ℕ) (items : List Place) (line : ℕ) (bytes text : List ℕ)
    (part : IsTextOfCut customers items line bytes true text) →
    AreWritten (part_of_history part.text_is.text_is.scope (cut part.text_is.moment part.calls)) →
    (parts : List Call) → Lists text parts →
    (IsLinearizable reserving (empty_state MOST_BLOCKS) parts → ⊥) →
    (blocks : ℕ) (calls : List Call) → blocks ≤ MOST_BLOCKS → Lists bytes calls →
    IsIllegalFrom blocks line calls

-- no order of these calls is a linearization, for a system of the greatest number of blocks
abbrev pub HaveNoOrder : List Call → Type 0
HaveNoOrder calls = IsLinearizable reserving (empty_state MOST_BLOCKS) calls → ⊥

-- the lines of a text are calls, which all have parts on a scope of these customers and items; the
-- call of the line with this number, counted from 1, is completed; and no order of the parts, as
-- they stood at its END, is a linearization, for a system of the greatest number of blocks
pub record HadIllegalPart (customers : List ℕ) (items : List Place) (line : ℕ) (bytes : List ℕ) :
    Type 0 where
  pub calls : List Call
  pub listed : Lists bytes calls
  pub scope : Scope
  pub is_scope : IsScopeOf customers items calls scope
  pub moment : ℕ
  pub ends : end_at calls line ≡ Some moment
  pub none : HaveNoOrder (cut moment (part_of_history scope calls))

-- the calls of the part whose text was written for a cut
abbrev pub written_calls : {customers : List ℕ} {items : List Place} {line : ℕ}
    {bytes text : List ℕ} → IsTextOfCut customers items line bytes true text → List Call
written_calls part =
    part_of_history part.text_is.text_is.scope (cut part.text_is.moment part.calls)

-- if a part on a scope of these customers and items had no order at the end of the call of a line,
-- then the part whose text is written for the cut at that end has none
abbrev pub IllegalPartsAreWritten : Type 0
IllegalPartsAreWritten = (customers : List ℕ) (items : List Place) (line : ℕ)
    (bytes text : List ℕ) → HadIllegalPart customers items line bytes →
    (part : IsTextOfCut customers items line bytes true text) → HaveNoOrder (written_calls part)

-- as `IllegalPartsAreWritten`, for the calls that are read from the text of the part: each reply of
-- the part is that of some reply, and the line of each task is no longer than a line may be
abbrev pub IllegalTextsAreWritten : Type 0
IllegalTextsAreWritten = (customers : List ℕ) (items : List Place) (line : ℕ)
    (bytes text : List ℕ) → HadIllegalPart customers items line bytes →
    (part : IsTextOfCut customers items line bytes true text) → AreWritten (written_calls part) →
    (parts : List Call) → Lists text parts → HaveNoOrder parts

-- if a part on a scope of these customers and items had no order at the end of the call of a line,
-- then no fault is written in the place of a part for the cut at that end
abbrev pub PartsAreWrittenForCuts : Type 0
PartsAreWrittenForCuts = (customers : List ℕ) (items : List Place) (line : ℕ)
    (bytes text : List ℕ) → HadIllegalPart customers items line bytes →
    IsCutTextFor customers items line bytes false text → ⊥
