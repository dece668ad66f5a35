-- The text for the calls of a history.
use Rattle.std.proofs.Common.{◌≡◌, ◌++◌, ◌∙◌, ℕ, Bool, true, false, List, [], ap, subst, inl}
use Rattle.vac_model.specs.declared.tasks.Task.{Task}
use Rattle.vac_model.specs.State.{Place}
use Rattle.judge_object.specs.declared.line.Line.{Line}
use Rattle.judge_calls.specs.Call.{Call}
use Rattle.judge_calls.specs.Laws.{Lists}
use Rattle.judge_calls.specs.CallText.{history_text}
use Rattle.judge_reservations.specs.declared.scope.Scope.{Scope}
use Rattle.judge_reservations.specs.Histories.{part_of_history}
use Rattle.judge_reservations.specs.Largest.{IsScopeOf, HasAllClosed, HasAllWhole, HasNoScope}
use Rattle.judge_reservations.specs.Lines.{calls_of}
use Rattle.judge_part_text.specs.Parting.{IsPartOfCalls, IsTextOfCalls, IsTextFor}

-- what holds of names, and of slices of them
same_names : (P : List ℕ → List Place → Type 0) (customers cs : List ℕ) (items places : List Place) → cs ≡ customers →
    places ≡ items → P cs places → P customers items
same_names P customers cs items places e f h =
    subst (λ (c : List ℕ). P c items) e (subst (λ (i : List Place). P cs i) f h)

pub no_scope : (customers cs : List ℕ) (items places : List Place) (calls : List Call) → cs ≡ customers →
    places ≡ items → HasNoScope cs places calls → HasNoScope customers items calls
no_scope customers cs items places calls e f h =
    same_names (λ c i. HasNoScope c i calls) customers cs items places e f h

pub part_text : (customers cs : List ℕ) (items places : List Place) (calls : List Call) (scope : Scope)
    (part : List (Line Task)) (before text : List ℕ) → cs ≡ customers → places ≡ items →
    IsScopeOf cs places calls scope → HasAllClosed cs places calls scope.closed.items →
    HasAllWhole cs places calls scope.whole.items → calls_of part ≡ part_of_history scope calls → before ≡ [] →
    text ≡ before ++ history_text (calls_of part) → IsPartOfCalls customers items calls text
part_text customers cs items places calls scope part before text e f is closed whole parts none written = record {
  scope = scope;
  is_scope = same_names (λ c i. IsScopeOf c i calls scope) customers cs items places e f is;
  closed = same_names (λ c i. HasAllClosed c i calls scope.closed.items) customers cs items places e f closed;
  whole = same_names (λ c i. HasAllWhole c i calls scope.whole.items) customers cs items places e f whole;
  text_is = written ∙ ap (λ t. t ++ history_text (calls_of part)) none ∙ ap history_text parts;
}

-- the text for a history whose lines are calls
pub whole_text : (customers : List ℕ) (items : List Place) (bytes : List ℕ) (calls : List Call) (is_part : Bool)
    (text : List ℕ) → Lists bytes calls → IsTextOfCalls customers items calls is_part text →
    IsTextFor customers items bytes is_part text
whole_text customers items bytes calls true text listed h =
    record { calls = calls; listed = listed; text_is = h }
whole_text customers items bytes calls false text listed h =
    inl (record { calls = calls; listed = listed; text_is = h })
