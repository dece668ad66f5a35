-- The history that is written of the recorded calls.
use Rattle.std.specs.Prelude.{ℕ, Bool, ◌&&◌, List, ◌∷◌, map, Option}
use Rattle.std.specs.List.{list_all}
use Rattle.std.specs.Io.KnownBytes.{Appends}
use Rattle.judge_calls.specs.Call.{Call}
use Rattle.judge_calls.specs.CallText.{answered_call, history_text, IsTheirHistory}
use Rattle.vac_lines.specs.Writing.{AppendsPrefix}
use Rattle.vac_manager.specs.declared.note.CompletedCall.{CompletedCall}
use Rattle.load_record.specs.declared.journal.CallRecorder.{CallRecorder}
use Rattle.load_record.specs.Order.{Entry, IsMerged}
use Rattle.load_record.specs.Numbers.{EachHasLines}

-- the calls that a client's call recorder has recorded
abbrev pub notes_of : {C : Type 0} → CallRecorder C → List CompletedCall
notes_of journal = journal.notes.items

-- the recorded calls of the setup phase, which is client 0, and of the clients numbered from 1
abbrev pub kept_by : {C : Type 0} → CallRecorder C → List (CallRecorder C) →
    List (List CompletedCall)
kept_by opening clients = notes_of opening ∷ map notes_of clients

-- the call recorders of the setup phase and of all clients had room for each call
-- Not said: that memory was refused if there was no room; that a load returns a call recorder with
-- this knowledge unchanged.
abbrev pub are_whole : {C : Type 0} → CallRecorder C → List (CallRecorder C) → Bool
are_whole opening clients = opening.is_whole && list_all (λ j. j.is_whole) clients

-- the call of a history for a recorded entry
abbrev pub call_of_entry : Entry → Call
call_of_entry e = answered_call e.client e.note.begin e.note.end e.note.task e.note.reply

-- the lines of the calls
abbrev pub calls_text : List Entry → List ℕ
calls_text all = history_text (map call_of_entry all)

-- the recorded calls of all clients were written in one order, one line each, and nothing else; if
-- their tasks have lines that can be read, the text is read as these calls and judged as such
-- Not said: the number of writes.
pub record WroteHistory (kept : List (List CompletedCall)) (held holds : Option (List ℕ)) :
    Type 0 where
  pub all : List Entry
  pub merged : IsMerged kept all
  pub written : Appends held holds (calls_text all)
  pub read : EachHasLines kept → IsTheirHistory (map call_of_entry all)

-- a prefix of the text of such a history was written
-- Not said: that writing stops early only if memory is refused or a write fails.
pub record WroteHistoryPrefix (kept : List (List CompletedCall)) (held holds : Option (List ℕ))
    : Type 0 where
  pub all : List Entry
  pub merged : IsMerged kept all
  pub written : AppendsPrefix held holds (calls_text all)
  pub read : EachHasLines kept → IsTheirHistory (map call_of_entry all)
