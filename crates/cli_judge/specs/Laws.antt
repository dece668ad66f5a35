-- Laws of the verdict on a history and of the part that is written for it.
use Rattle.std.specs.Prelude.{ℕ, true, false, List, Option}
use Rattle.vac_model.specs.declared.limits.TheConstants.{MOST_BLOCKS}
use Rattle.vac_model.specs.declared.replies.Reply.{Reply}
use Rattle.vac_model.specs.State.{Place}
use Rattle.judge_object.specs.declared.level.Level.TheVariants as level
use Rattle.judge_calls.specs.Call.{Call}
use Rattle.judge_calls.specs.CallText.{AreWritten}
use Rattle.judge_calls.specs.Laws.{Lists}
use Rattle.judge_part_text.specs.Until.{IsTextOfCut, IsCutTextFor}
use Rattle.judge_part_text.specs.Laws.{HaveNoOrder, written_calls}
use Rattle.judge_linear.specs.Found.{Order, HasIllegalPart, IsFound}

-- no order of the calls of a text is a linearization, for a system of the greatest number of
-- blocks, and no search of the text finds one
pub record IsWithoutOrder (text : List ℕ) : Type 0 where
  pub none : (calls : List Call) → Lists text calls → HaveNoOrder calls
  pub never : (steps : ℕ) (numbers : List ℕ) →
      IsFound level.Linearizable MOST_BLOCKS steps text (Order numbers) → ⊥

-- for the cut of a history at the end of the call of a line a part on these customers and items is
-- written, and no fault. The text of the part has no order, if each reply of the part is that of
-- some reply, and the line of each task is no longer than a line may be
pub record IsWrittenIllegal (customers : List ℕ) (items : List Place) (line : ℕ) (bytes : List ℕ) :
    Type 0 where
  pub written : (text : List ℕ) → IsCutTextFor customers items line bytes false text → ⊥
  pub illegal : (text : List ℕ) (part : IsTextOfCut customers items line bytes true text) →
      AreWritten (written_calls part) → IsWithoutOrder text

-- if the verdict on a history names a line at the end of whose call a part had no order, then the
-- part that is written for the cut at that end, on the customers and items that the verdict names,
-- has none
abbrev pub PartsOfVerdictsAreIllegal : Type 0
PartsOfVerdictsAreIllegal = (n : ℕ) (bytes : List ℕ) (line : ℕ) (customers : List ℕ)
    (items : List Place) (stuck : List (ℕ × Reply)) (states : Option ℕ) →
    HasIllegalPart level.Linearizable n bytes line customers items stuck states →
    IsWrittenIllegal customers items line bytes
