-- The text that is written for the cut of a history at the end of a call: the part of the cut on a
-- scope, or a fault.
use Rattle.std.specs.Prelude.{◌≡◌, ◌⊎◌, ◌<◌, ℕ, ◌+◌, ◌-◌, Bool, true, false, not, Option, Some, None, List}
use Rattle.std.specs.Prelude.{◌++◌, [], codes, decimal, nat_le, slice_get, if◌then◌else◌}
use Rattle.std.specs.List.{position}
use Rattle.std.specs.Option.{option_and_then}
use Rattle.std.specs.Io.KnownBytes.{Appends}
use Rattle.vac_model.specs.State.{Place}
use Rattle.vac_lines.specs.Script.{as_line}
use Rattle.vac_lines.specs.Writing.{AppendsPrefix}
use Rattle.vac_lines.specs.declared.stream_fault.StreamFault.{StreamFault}
use Rattle.vac_lines.specs.declared.stream_fault.StreamFault.TheVariants as fault
use Rattle.judge_object.specs.declared.span.TheConstants.{NEVER}
use Rattle.judge_object.specs.Call.{is_completed}
use Rattle.judge_object.specs.Cut.{cut, cut_call}
use Rattle.judge_calls.specs.Call.{Call}
use Rattle.judge_calls.specs.HeldReading.{IsReadWhole}
use Rattle.judge_calls.specs.Laws.{Lists}
use Rattle.judge_reservations.specs.declared.scope.Scope.{Scope}
use Rattle.judge_reservations.specs.Scopes.{IsOpen}
use Rattle.judge_reservations.specs.Largest.{HasNoScope}
use Rattle.judge_reservations.specs.Lines.{has_part}
use Rattle.judge_part_text.specs.Naming.{Named}
use Rattle.judge_part_text.specs.Parting.{IsPartOfCalls, IsDamageText, no_part_text}

-- END of a call, if the call is completed
abbrev pub completed_end : Call → Option ℕ
completed_end call = if is_completed call then Some call.end else None

-- END of the call of the line with this number, counted from 1, if there is such a line and its
-- call is completed
abbrev pub end_at : List Call → ℕ → Option ℕ
end_at calls line =
    if nat_le 1 line then option_and_then completed_end (slice_get calls (line - 1)) else None

-- tests if a call has a part, unless it is left out
abbrev pub may_have_part : Scope → Option Call → Bool
may_have_part scope None = true
may_have_part scope (Some call) = has_part scope call

-- tests if a call, as it stood at a moment, has a part, or had not begun then
abbrev pub had_part : Scope → ℕ → Call → Bool
had_part scope moment call = may_have_part scope (cut_call moment call)

-- the text of the fault of a line that has no completed call
abbrev pub no_end_text : ℕ → List ℕ
no_end_text line = as_line (codes "fault no-end " ++ decimal line)

-- no scope of these customers and items has parts of all calls as they stood at a moment; the call
-- of the line with this number, counted from 1, is the first that had no part even if no item is
-- closed and no customer is whole
pub record IsFirstWithoutThen (customers : List ℕ) (items : List Place) (moment : ℕ)
    (calls : List Call) (line : ℕ) : Type 0 where
  pub none : HasNoScope customers items (cut moment calls)
  pub scope : Scope
  pub is_open : IsOpen customers items scope
  pub place : ℕ
  pub first : position (λ call. not (had_part scope moment call)) calls ≡ Some place
  pub number : line ≡ place + 1

-- the text of the part of these calls as they stood at a moment, or the fault of the first call
-- that had none
abbrev pub IsTextThen : List ℕ → List Place → ℕ → List Call → Bool → List ℕ → Type 0
IsTextThen customers items moment calls true text =
    IsPartOfCalls customers items (cut moment calls) text
IsTextThen customers items moment calls false text =
    (line : ℕ) × IsFirstWithoutThen customers items moment calls line × (text ≡ no_part_text line)

-- the call of the line with this number is completed, and the text is that for the calls as they
-- stood at its END
pub record IsTextAtEnd (customers : List ℕ) (items : List Place) (calls : List Call) (line : ℕ)
    (is_part : Bool) (text : List ℕ) : Type 0 where
  pub moment : ℕ
  pub ends : end_at calls line ≡ Some moment
  pub early : moment < NEVER
  pub text_is : IsTextThen customers items moment calls is_part text

-- no line with this number has a completed call, and the text is that of this fault
pub record IsNoEndText (calls : List Call) (line : ℕ) (text : List ℕ) : Type 0 where
  pub none : end_at calls line ≡ None
  pub text_is : text ≡ no_end_text line

-- the text for some calls, cut at the end of the call of a line
abbrev pub IsTextUntil : List ℕ → List Place → List Call → ℕ → Bool → List ℕ → Type 0
IsTextUntil customers items calls line true text = IsTextAtEnd customers items calls line true text
IsTextUntil customers items calls line false text =
    IsTextAtEnd customers items calls line false text ⊎ IsNoEndText calls line text

-- the text for a history, cut at the end of the call of a line
pub record IsTextOfCut (customers : List ℕ) (items : List Place) (line : ℕ) (bytes : List ℕ)
    (is_part : Bool) (text : List ℕ) : Type 0 where
  pub calls : List Call
  pub listed : Lists bytes calls
  pub text_is : IsTextUntil customers items calls line is_part text

-- the text for a cut of a history: of its part, or of a fault
abbrev pub IsCutTextFor : List ℕ → List Place → ℕ → List ℕ → Bool → List ℕ → Type 0
IsCutTextFor customers items line bytes true text =
    IsTextOfCut customers items line bytes true text
IsCutTextFor customers items line bytes false text =
    IsTextOfCut customers items line bytes false text ⊎ IsDamageText bytes text

-- a history was read to its end, and exactly the text for its cut at the end of the call of a line
-- was written; `is_part` says whether the text is that of a part
-- Not said: anything of the bytes of a stream that no contract describes.
pub record HasPartedUntil (names : Named) (line : ℕ) (is_part : Bool)
    (unread left held holds : Option (List ℕ)) : Type 0 where
  pub bytes : List ℕ
  pub read : IsReadWhole unread left bytes
  pub text : List ℕ
  pub is : IsCutTextFor names.0 names.1 line bytes is_part text
  pub written : Appends held holds text

-- a history was read to its end, and a prefix of the text for its cut was written
pub record HasPartedUntilInPart (names : Named) (line : ℕ)
    (unread left held holds : Option (List ℕ)) : Type 0 where
  pub bytes : List ℕ
  pub read : IsReadWhole unread left bytes
  pub is_part : Bool
  pub text : List ℕ
  pub is : IsCutTextFor names.0 names.1 line bytes is_part text
  pub written : AppendsPrefix held holds text

-- a fault ended the writing of the part of a cut. After a fault of the output a prefix of the text
-- was written, after any other fault nothing
-- Not said: which cause gives which of the faults of reading, of memory and of bounds.
abbrev pub HasStoppedPartingUntil : Named → ℕ → StreamFault → Option (List ℕ) → Option (List ℕ)
    → Option (List ℕ) → Option (List ℕ) → Type 0
HasStoppedPartingUntil names line fault.Write unread left held holds =
    HasPartedUntilInPart names line unread left held holds
HasStoppedPartingUntil names line fault unread left held holds = Appends held holds []
