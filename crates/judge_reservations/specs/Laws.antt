-- Laws of parts.
use Rattle.std.specs.Prelude.{◌≡◌, ◌≤◌, ℕ, true, List}
use Rattle.std.specs.List.{list_all}
use Rattle.vac_model.specs.declared.limits.TheConstants.{MOST_BLOCKS}
use Rattle.vac_model.specs.declared.tasks.Task.{Task}
use Rattle.vac_model.specs.State.{empty_state}
use Rattle.judge_object.specs.Call.{Call, EachCall}
use Rattle.judge_object.specs.Cut.{cut}
use Rattle.judge_object.specs.Orders.{IsLinearizable}
use Rattle.judge_reservations.specs.Reserving.{reserving}
use Rattle.judge_reservations.specs.declared.scope.Scope.{Scope}
use Rattle.judge_reservations.specs.Histories.{part_of_history, fits, AreTimed}
use Rattle.judge_reservations.specs.Lines.{has_part}
use Rattle.judge_reservations.specs.Scopes.{IsCoarser}

-- if a history of a system of some number of blocks is linearizable, then so is its part, in a
-- system of the greatest number of blocks
abbrev pub PartsAreLinearizable : Scope → Type 0
PartsAreLinearizable scope = (blocks : ℕ) (calls : List (Call Task)) → blocks ≤ MOST_BLOCKS →
    EachCall (λ call. fits scope call ≡ true) calls → AreTimed scope calls →
    IsLinearizable reserving (empty_state blocks) calls →
    IsLinearizable reserving (empty_state MOST_BLOCKS) (part_of_history scope calls)

-- if the part of a history is not linearizable in a system of the greatest number of blocks, then
-- the history is not linearizable in a system of any number of blocks
abbrev pub IllegalPartsShow : Scope → Type 0
IllegalPartsShow scope = (blocks : ℕ) (calls : List (Call Task)) → blocks ≤ MOST_BLOCKS →
    list_all (has_part scope) calls ≡ true →
    (IsLinearizable reserving (empty_state MOST_BLOCKS) (part_of_history scope calls) → ⊥) →
    IsLinearizable reserving (empty_state blocks) calls → ⊥

-- the part of a cut is the cut of the part
abbrev pub PartOfCut : Scope → Type 0
PartOfCut scope = (moment : ℕ) (calls : List (Call Task)) →
    part_of_history scope (cut moment calls) ≡ cut moment (part_of_history scope calls)

-- a scope on which all calls of a history have parts has parts of all calls of each cut
abbrev pub CallsOfCutsHaveParts : Scope → Type 0
CallsOfCutsHaveParts scope = (moment : ℕ) (calls : List (Call Task)) →
    list_all (has_part scope) calls ≡ true → list_all (has_part scope) (cut moment calls) ≡ true

-- the part on a scope of the part on a finer scope is the part on the first scope
abbrev pub PartOfPart : Scope → Scope → Type 0
PartOfPart one other = IsCoarser one other → (calls : List (Call Task)) →
    part_of_history one (part_of_history other calls) ≡ part_of_history one calls

-- if the part of a history on a scope is not linearizable in a system of the greatest number of
-- blocks, then neither is the part on a finer scope on which all calls have parts
abbrev pub FinerPartsAreIllegal : Scope → Scope → Type 0
FinerPartsAreIllegal one other = IsCoarser one other → (calls : List (Call Task)) →
    list_all (has_part other) calls ≡ true →
    (IsLinearizable reserving (empty_state MOST_BLOCKS) (part_of_history one calls) → ⊥) →
    IsLinearizable reserving (empty_state MOST_BLOCKS) (part_of_history other calls) → ⊥
