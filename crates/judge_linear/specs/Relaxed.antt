-- Lines of a history, copied without the order that a level does not keep.
use Rattle.std.specs.Prelude.{◌≡◌, ⊤, List, [], ◌∷◌}
use Rattle.vac_model.specs.declared.tasks.Task.{Task}
use Rattle.judge_object.specs.declared.level.Level.{Level}
use Rattle.judge_object.specs.Relaxed.{relaxed_call}
use Rattle.judge_object.specs.declared.line.Line.{Line}
use Rattle.judge_object.specs.Orders.{IsMerge}
use Rattle.judge_search.specs.declared.calls.Calls.{Calls}
use Rattle.judge_search.specs.Calls.{call_of, calls_of}
use Rattle.judge_search.specs.Sorting.{AreSortOf}
use Rattle.judge_search.specs.Walk.{InTurn}

-- two lines have the same number, text and call
pub record IsCopy (line copy : Line Task) : Type 0 where
  pub number : copy.number ≡ line.number
  pub text : copy.text.items ≡ line.text.items
  pub call : call_of copy ≡ call_of line

-- a line is a copy of another without the order that the level does not keep
pub record IsRelaxedLine (kept : Level) (line relaxed : Line Task) : Type 0 where
  pub number : relaxed.number ≡ line.number
  pub text : relaxed.text.items ≡ line.text.items
  pub call : call_of relaxed ≡ relaxed_call kept line.number (call_of line)

-- each line is a copy of one of these, in their order
abbrev pub AreRelaxedLines : Level → List (Line Task) → List (Line Task) → Type 0
AreRelaxedLines kept [] [] = ⊤
AreRelaxedLines kept (line ∷ lines) (relaxed ∷ others) =
    IsRelaxedLine kept line relaxed × AreRelaxedLines kept lines others
AreRelaxedLines kept _ _ = ⊥

-- calls are those of such copies, as a search keeps them
pub record AreRelaxedCalls (kept : Level) (lines : List (Line Task)) (calls : Calls Task) : Type 0
  where
    pub relaxed : List (Line Task)
    pub are : AreRelaxedLines kept lines relaxed
    pub same : AreSortOf relaxed calls.lines.items
    pub merges : InTurn (calls_of relaxed) → IsMerge (calls_of relaxed) (calls_of calls.lines.items)
