-- The text that is written for a history: its part on a scope, or a fault.
use Rattle.std.specs.Prelude.{◌≡◌, ◌⊎◌, ℕ, ◌+◌, Bool, true, false, not, Option, Some, List, [], ◌++◌, codes, decimal}
use Rattle.std.specs.List.{position}
use Rattle.std.specs.Io.KnownBytes.{Appends}
use Rattle.vac_model.specs.State.{Place}
use Rattle.vac_lines.specs.Script.{as_line}
use Rattle.vac_lines.specs.Writing.{AppendsPrefix}
use Rattle.vac_lines.specs.declared.stream_fault.StreamFault.{StreamFault}
use Rattle.vac_lines.specs.declared.stream_fault.StreamFault.TheVariants as fault
use Rattle.judge_calls.specs.declared.fault.CallFault.{CallFault}
use Rattle.judge_calls.specs.declared.verdict.Verdict.TheVariants.{Fault}
use Rattle.judge_calls.specs.Call.{Call}
use Rattle.judge_calls.specs.CallText.{history_text}
use Rattle.judge_calls.specs.HeldReading.{IsReadWhole}
use Rattle.judge_calls.specs.Laws.{Lists}
use Rattle.judge_calls.specs.Verdict.{verdict_text}
use Rattle.judge_reservations.specs.declared.scope.Scope.{Scope}
use Rattle.judge_reservations.specs.Scopes.{IsOpen}
use Rattle.judge_reservations.specs.Histories.{part_of_history}
use Rattle.judge_reservations.specs.Largest.{IsScopeOf, HasAllClosed, HasAllWhole, HasNoScope}
use Rattle.judge_reservations.specs.Lines.{has_part}
use Rattle.judge_part_text.specs.Naming.{Named}
use Rattle.judge_part_text.specs.Reading.{IsFirstDamaged}

-- no scope of these customers and items has parts of all calls; the call with this number, counted
-- from 1, is the first that has no part even if no item is closed and no customer is whole
pub record IsFirstWithout (customers : List ℕ) (items : List Place) (calls : List Call) (line : ℕ) :
    Type 0 where
  pub none : HasNoScope customers items calls
  pub scope : Scope
  pub is_open : IsOpen customers items scope
  pub place : ℕ
  pub first : position (λ call. not (has_part scope call)) calls ≡ Some place
  pub number : line ≡ place + 1

-- the text of the fault of a history some call of which has no part
abbrev pub no_part_text : ℕ → List ℕ
no_part_text line = as_line (codes "fault no-part " ++ decimal line)

-- the text of the part of these calls on a scope of these customers and items, which has as many
-- closed items and whole customers as there can be
pub record IsPartOfCalls (customers : List ℕ) (items : List Place) (calls : List Call)
    (text : List ℕ) : Type 0 where
  pub scope : Scope
  pub is_scope : IsScopeOf customers items calls scope
  pub closed : HasAllClosed customers items calls scope.closed.items
  pub whole : HasAllWhole customers items calls scope.whole.items
  pub text_is : text ≡ history_text (part_of_history scope calls)

-- the text of the part of these calls, or the fault of the first call that has none
abbrev pub IsTextOfCalls : List ℕ → List Place → List Call → Bool → List ℕ → Type 0
IsTextOfCalls customers items calls true text = IsPartOfCalls customers items calls text
IsTextOfCalls customers items calls false text =
    (line : ℕ) × IsFirstWithout customers items calls line × (text ≡ no_part_text line)

-- the text of the part of a history, or the fault of its first call that has none
pub record IsTextOfHistory (customers : List ℕ) (items : List Place) (bytes : List ℕ)
    (is_part : Bool) (text : List ℕ) : Type 0 where
  pub calls : List Call
  pub listed : Lists bytes calls
  pub text_is : IsTextOfCalls customers items calls is_part text

-- the text of the fault of the first line that is no call
pub record IsDamageText (bytes text : List ℕ) : Type 0 where
  pub line : ℕ
  pub fault : CallFault
  pub first : IsFirstDamaged bytes line fault
  pub text_is : text ≡ verdict_text (Fault line fault)

-- the text for a history: of its part, or of a fault
abbrev pub IsTextFor : List ℕ → List Place → List ℕ → Bool → List ℕ → Type 0
IsTextFor customers items bytes true text = IsTextOfHistory customers items bytes true text
IsTextFor customers items bytes false text =
    IsTextOfHistory customers items bytes false text ⊎ IsDamageText bytes text

-- a history was read to its end, and exactly the text for the history was written; `is_part` says
-- whether the text is that of its part
-- Not said: anything of the bytes of a stream that no contract describes.
pub record HasParted (names : Named) (is_part : Bool) (unread left held holds : Option (List ℕ)) :
    Type 0 where
  pub bytes : List ℕ
  pub read : IsReadWhole unread left bytes
  pub text : List ℕ
  pub is : IsTextFor names.0 names.1 bytes is_part text
  pub written : Appends held holds text

-- a history was read to its end, and a prefix of the text for the history was written
pub record HasPartedInPart (names : Named) (unread left held holds : Option (List ℕ)) :
    Type 0 where
  pub bytes : List ℕ
  pub read : IsReadWhole unread left bytes
  pub is_part : Bool
  pub text : List ℕ
  pub is : IsTextFor names.0 names.1 bytes is_part text
  pub written : AppendsPrefix held holds text

-- a fault ended the writing of a part. After a fault of the output a prefix of the text was
-- written, after any other fault nothing
-- Not said: which cause gives which of the faults of reading, of memory and of bounds.
abbrev pub HasStoppedParting : Named → StreamFault → Option (List ℕ) → Option (List ℕ)
    → Option (List ℕ) → Option (List ℕ) → Type 0
HasStoppedParting names fault.Write unread left held holds =
    HasPartedInPart names unread left held holds
HasStoppedParting names fault unread left held holds = Appends held holds []
