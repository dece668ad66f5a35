-- The text of kept calls is read as these calls.
use Rattle.std.proofs.Common.{◌≡◌, ◌∙◌, ◌≤◌, ◌<◌, ◌+◌, ◌^◌, inl, refl, ap, arith, ℕ, zero, suc, List, [], ◌∷◌}
use Rattle.std.proofs.Common.{length, map}
use Rattle.std.specs.List.{All}
use Rattle.std.proofs.lemmas.Bool.{le-ltb}
use Rattle.std.proofs.lemmas.List.Elements.{All-nil, All-cons, All-head, All-tail}
use Rattle.vac_lines.specs.LineTable.{words_task}
use Rattle.vac_lines.specs.TaskText.{TaskTextsAreRead}
use Rattle.vac_model.specs.TaskText.{task_words, task_text}
use Rattle.vac_lines.proofs.Spacing.{words_cut, words_clean}
use Rattle.vac_lines.proofs.TaskReading.{words_read, words_plain, task_some}
use Rattle.vac_manager.specs.declared.note.CompletedCall.{CompletedCall}
use Rattle.judge_calls.specs.CallText.{IsReply, IsAnsweredCall, IsWritten, AreWritten, IsTheirHistory, HistoriesAreRead}
use Rattle.judge_calls.proofs.CallText.{texts_read}
use Rattle.judge_calls.proofs.Linearized.{legal_is_linearization}
use Rattle.judge_calls.proofs.Histories.{histories_read}
use Rattle.load_record.specs.declared.journal.CallRecorder.{CallRecorder}
use Rattle.load_record.specs.Turns.{NotesTakeTime}
use Rattle.load_record.specs.Numbers.{EndInTime, HaveReplies, HasLine, EachHasLines}
use Rattle.load_record.specs.Order.{Entry, entries_of, entries_from, list_at, IsMerged}
use Rattle.load_record.specs.History.{notes_of, kept_by, call_of_entry}
use Rattle.load_record.proofs.Merges.{each_of}

-- the line of a task is read as that task
pub tasks_read : TaskTextsAreRead
tasks_read t h few =
    let plain = words_plain t h in
    rw (le-ltb 1024 (length (task_text t)) few, words_clean (task_words t) plain)
    (ap words_task (words_cut (task_words t) (task_some t) plain) ∙ words_read t h)

-- the text of calls is read as them
histories : HistoriesAreRead
histories = histories_read legal_is_linearization (texts_read tasks_read)

-- what is known of a call that was kept
record IsSound (n : CompletedCall) : Type 0 where
  begin : n.begin < 2 ^ 64
  end : n.end < 2 ^ 64
  numbers : IsReply n.reply
  line : HasLine n

-- the call can be written
abbrev CanBeWritten : Entry → Type 0
CanBeWritten e = IsWritten (call_of_entry e)

can_be : (client : ℕ) (n : CompletedCall) → client ≤ 4294967295 → IsSound n →
    CanBeWritten (record { client = client; note = n })
can_be client n low h =
    let own : IsAnsweredCall (call_of_entry (record { client = client; note = n })) n.reply = record {
      client = low;
      begin = h.begin;
      end = h.end;
      task = h.line.task;
      line = h.line.line;
      numbers = h.numbers;
      reply = refl;
    } in
    inl (n.reply, own)

entries_can : (client : ℕ) (notes : List CompletedCall) → client ≤ 4294967295 → All IsSound notes →
    All CanBeWritten (entries_of client notes)
entries_can client [] low h = All-nil CanBeWritten
entries_can client (n ∷ notes) low h =
    All-cons CanBeWritten (record { client = client; note = n }) (entries_of client notes)
    (can_be client n low (All-head IsSound n notes h))
    (entries_can client notes low (All-tail IsSound n notes h))

each_can : (first : ℕ) (kept : List (List CompletedCall)) → first + length kept ≤ 4294967296 →
    ((place : ℕ) → All IsSound (list_at kept place)) →
    (place : ℕ) → All CanBeWritten (list_at (entries_from first kept) place)
each_can first [] few h place = All-nil CanBeWritten
each_can first (notes ∷ kept) few h zero = entries_can first notes (omega (arith, few)) (h 0)
each_can first (notes ∷ kept) few h (suc place) =
    each_can (suc first) kept (omega (arith, few)) (λ k. h (suc k)) place

-- ---- of the calls of journals

all_sound : (notes : List CompletedCall) → NotesTakeTime notes → EndInTime notes → HaveReplies notes →
    All HasLine notes →
    All IsSound notes
all_sound notes timed ends replies lines k d low =
    let takes = timed k d low in
    let end = ends k d low in
    record { begin = omega (arith, takes, end); end = end; numbers = replies k d low; line = lines k d low }

each_sound : {C : Type 0} (journals : List (CallRecorder C)) → EachHasLines (map notes_of journals) →
    (place : ℕ) → All IsSound (list_at (map notes_of journals) place)
each_sound [] lines place = All-nil IsSound
each_sound (j ∷ journals) lines zero = all_sound (notes_of j) j.timed j.ends j.replies (lines 0)
each_sound (j ∷ journals) lines (suc place) = each_sound journals (λ k. lines (suc k)) place

calls_can : (all : List Entry) → All CanBeWritten all → AreWritten (map call_of_entry all)
calls_can [] h = All-nil IsWritten
calls_can (e ∷ all) h =
    All-cons IsWritten (call_of_entry e) (map call_of_entry all) (All-head CanBeWritten e all h)
    (calls_can all (All-tail CanBeWritten e all h))

map_length : {C : Type 0} (journals : List (CallRecorder C)) → length (map notes_of journals) ≡ length journals
map_length [] = refl
map_length (j ∷ journals) = ap suc (map_length journals)

pub text_read : {C : Type 0} (opening : CallRecorder C) (clients : List (CallRecorder C)) → length clients < 2 ^ 32 →
    (all : List Entry) → IsMerged (kept_by opening clients) all → EachHasLines (kept_by opening clients) →
    IsTheirHistory (map call_of_entry all)
text_read opening clients few all merged lines =
    let kept = kept_by opening clients in
    let same = map_length clients in
    let low : 0 + length kept ≤ 4294967296 = omega (arith, few, same) in
    histories (map call_of_entry all) (calls_can all (each_of CanBeWritten (entries_from 0 kept) all merged.each_once
    (each_can 0 kept low (each_sound (opening ∷ clients) lines))))
