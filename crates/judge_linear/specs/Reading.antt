-- Reading a history of which only each client's own order is known.
use Rattle.std.specs.Prelude.{◌≡◌, ◌≢◌, ◌⊎◌, ◌==◌, ◌&&◌, ◌+◌, ◌-◌, ◌^◌, ◌≤◌, ⊤, ℕ, Bool, false, Option, Some, None, Result, Ok, Err, List, [], ◌∷◌, ◌++◌, map, length, get_or, All, nat_lt, if◌then◌else◌}
use Rattle.std.specs.List.{list_any}
use Rattle.std.specs.Ordering.{nat_cmp}
use Rattle.std.specs.FinMap.{FinMap, get}
use Rattle.std.specs.Io.KnownBytes.{Consumes, IsAtEnd}
use Rattle.vac_lines.specs.Lines.{lines_of}
use Rattle.vac_lines.specs.declared.fault.LineFault.TheVariants.{LongLine}
use Rattle.vac_lines.specs.declared.stream_fault.StreamFault.{StreamFault}
use Rattle.vac_lines.specs.declared.stream_fault.StreamFault.TheVariants.{Write}
use Rattle.vac_lines.specs.declared.next.Next.{Next}
use Rattle.vac_lines.specs.declared.next.Next.TheVariants.{GoOn, Stop}
use Rattle.vac_lines.specs.Told as told
use Rattle.judge_calls.specs.declared.fault.CallFault.{CallFault}
use Rattle.judge_calls.specs.declared.fault.CallFault.TheVariants as fault
use Rattle.judge_calls.specs.declared.verdict.Verdict.{Verdict}
use Rattle.judge_calls.specs.declared.verdict.Verdict.TheVariants.{Fault, Illegal}
use Rattle.judge_calls.specs.declared.verdict.CallViolation.TheVariants.{Client}
use Rattle.judge_calls.specs.Call.{Call, line_call}
use Rattle.judge_calls.specs.Order.{call_breaks_client}
use Rattle.judge_object.specs.Call.{EachCall}
use Rattle.judge_calls.specs.Laws.{Lists}
use Rattle.vac_model.specs.declared.tasks.Task.{Task}
use Rattle.judge_object.specs.Orders.{IsMerge}
use Rattle.judge_object.specs.declared.line.Line.{Line}
use Rattle.judge_reservations.specs.Reserving.{reserving}
use Rattle.judge_linear.specs.declared.history.History.{History}
use Rattle.judge_linear.specs.declared.reading.HistoryText.{HistoryText}
use Rattle.judge_linear.specs.declared.reading.Reading.{Reading}
use Rattle.judge_linear.specs.declared.reading.Reading.TheVariants.{Whole, Wrong}
use Rattle.judge_search.specs.Calls.{call_of, calls_of, no_call}
use Rattle.judge_search.specs.Walking.{AreDistinct}
use Rattle.judge_search.specs.Walk.{InTurn, IsTimed}

-- the verdict on the first of these lines that is no call, or whose call is not in turn after the
-- calls of its client; the given calls come before the lines. There is no verdict if no line is
-- wrong
abbrev pub wrong_behind : List Call → List (Result Call CallFault) → Option Verdict
wrong_behind calls [] = None
wrong_behind calls (Err fault ∷ rest) = Some (Fault (length calls + 1) fault)
wrong_behind calls (Ok call ∷ rest) =
    if call_breaks_client calls call then Some (Illegal (length calls + 1) Client)
    else wrong_behind (calls ++ call ∷ []) rest

-- the verdict on the first line of a text that is no call or not in turn, if there is such a line
abbrev pub first_wrong : List ℕ → Option Verdict
first_wrong bytes = wrong_behind [] (map line_call (lines_of bytes))

-- the texts of the lines, in their order
abbrev pub texts_of : List (Line Task) → List (List ℕ)
texts_of lines = map (λ line. line.text.items) lines

-- the lines are numbered consecutively from this number on
abbrev pub AreNumbered : ℕ → List (Line Task) → Type 0
AreNumbered number [] = ⊤
AreNumbered number (line ∷ lines) = (line.number ≡ number) × AreNumbered (number + 1) lines

-- true if there is an end of an earlier call, and the next call began before that end
abbrev pub began_before : Option ℕ → ℕ → Bool
began_before None begin = false
began_before (Some end) begin = nat_lt begin end

-- true if both calls belong to one client, and the later call began before the earlier call had
-- ended
abbrev pub calls_overlap : Call → Call → Bool
calls_overlap call earlier = earlier.client == call.client && nat_lt call.begin earlier.end

-- the last end of each client shows whether a call overlaps an earlier call of that client
abbrev pub KeepsEnds : FinMap nat_cmp ℕ → List Call → Type 0
KeepsEnds ends calls = (call : Call) →
    list_any (calls_overlap call) calls ≡ began_before (get ends call.client) call.begin

-- the calls that were read are in turn for each client, and their lines are numbered from 1
pub record IsHeld (history : History) : Type 0 where
  pub ends : KeepsEnds history.ends (calls_of history.lines.items)
  pub turn : InTurn (calls_of history.lines.items)
  pub timed : EachCall (IsTimed (2 ^ 64 - 1)) (calls_of history.lines.items)
  pub numbered : AreNumbered 1 history.lines.items

-- the numbers of the lines, in their order
abbrev pub numbers_of : List (Line Task) → List ℕ
numbers_of lines = map (λ line. line.number) lines

-- the call of the line with this number, the first line having number 1
abbrev pub call_at : List Call → ℕ → Call
call_at calls number = get_or calls (number - 1) (no_call reserving)

-- a line is the line of the list that has its number
pub record IsLineAt (lines : List (Line Task)) (line : Line Task) : Type 0 where
  pub first : 1 ≤ line.number
  pub last : line.number ≤ length lines
  pub text : get_or (texts_of lines) (line.number - 1) [] ≡ line.text.items
  pub call : call_at (calls_of lines) line.number ≡ call_of line

-- the kept lines are exactly the lines of the history, each once, and the calls of each client
-- have the same order in both lists
pub record AreKeptLines (lines kept : List (Line Task)) : Type 0 where
  pub merges : IsMerge (calls_of lines) (calls_of kept)
  pub each : All (IsLineAt lines) kept
  pub distinct : AreDistinct (numbers_of kept)

-- the call of a line is in turn, and was taken
pub record Took (before after : History) (text : List ℕ) (call : Call) : Type 0 where
  pub fits : call_breaks_client (calls_of before.lines.items) call ≡ false
  pub held : IsHeld after
  pub texts : texts_of after.lines.items ≡ texts_of before.lines.items ++ text ∷ []
  pub calls : calls_of after.lines.items ≡ calls_of before.lines.items ++ call ∷ []

-- a line was taken as one more call
pub record TookLine (before after : HistoryText) (text : List ℕ) : Type 0 where
  pub call : Call
  pub is : line_call text ≡ Ok call
  pub took : Took before.history after.history text call
  pub wrong : after.wrong ≡ before.wrong

-- a line is wrong after the lines before it, whatever follows
pub record StopsAt (before after : HistoryText) (line : Result Call CallFault) : Type 0 where
  pub verdict : Verdict
  pub wrong : after.wrong ≡ Some verdict
  pub is : (more : List (Result Call CallFault)) →
      wrong_behind (calls_of before.history.lines.items) (line ∷ more) ≡ Some verdict

-- the number of the line after the lines that were read
abbrev pub next_line : HistoryText → ℕ
next_line text = length text.history.lines.items + 1

-- the effect of a reported line on a text that is read
abbrev pub HistoryHearsLine : HistoryText → told.Message → Result Next StreamFault
    → HistoryText → Type 0
HistoryHearsLine x told (Err fault) y = fault ≢ Write
HistoryHearsLine x (told.Line text) (Ok GoOn) y = IsHeld x.history → TookLine x y text
HistoryHearsLine x (told.Line text) (Ok Stop) y = IsHeld x.history → StopsAt x y (line_call text)
HistoryHearsLine x told.LongLine (Ok next) y =
    (next ≡ Stop) × StopsAt x y (Err (fault.Line LongLine))
HistoryHearsLine x told.Pause (Ok next) y = (next ≡ GoOn) × (y ≡ x)

-- the input was read to its end, its lines are the calls of the history, and the calls of each
-- client are in turn
pub record ReadWhole (unread left : Option (List ℕ)) (history : History) : Type 0 where
  pub bytes : List ℕ
  pub consumed : Consumes unread left bytes
  pub ended : IsAtEnd left
  pub held : IsHeld history
  pub texts : texts_of history.lines.items ≡ lines_of bytes
  pub listed : Lists bytes (calls_of history.lines.items)
  pub right : first_wrong bytes ≡ None

-- enough of the input was read to show its first wrong line: all of the input, or a prefix for
-- which the verdict holds whatever follows
pub record ReadWrong (unread left : Option (List ℕ)) (verdict : Verdict) : Type 0 where
  pub bytes : List ℕ
  pub consumed : Consumes unread left bytes
  pub is : (IsAtEnd left × (first_wrong bytes ≡ Some verdict))
      ⊎ ((x : List ℕ) → first_wrong (bytes ++ x) ≡ Some verdict)

-- the input was read as this reading
abbrev pub WasReadAs : Option (List ℕ) → Option (List ℕ) → Reading → Type 0
WasReadAs unread left (Whole history) = ReadWhole unread left history
WasReadAs unread left (Wrong verdict) = ReadWrong unread left verdict
