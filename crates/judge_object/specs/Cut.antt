-- Cuts of a history: the history as it stood at a moment.
use Rattle.std.specs.Prelude.{◌≡◌, ◌<◌, ◌≤◌, ℕ, Option, Some, None, List, filter_map, nat_le}
use Rattle.std.specs.Prelude.{if◌then◌else◌}
use Rattle.std.specs.Option.{option_map}
use Rattle.judge_object.specs.Relaxed.{call_of}
use Rattle.judge_object.specs.declared.line.Line.{Line}
use Rattle.judge_object.specs.Rules.{Rules}
use Rattle.judge_object.specs.Call.{Call, is_completed}
use Rattle.judge_object.specs.Orders.{IsLinearizable}
use Rattle.judge_object.specs.declared.span.TheConstants.{NEVER}

module _ {O : Type 0} where
  -- a call that is running: without end. Its reply is kept if it is known: then the call gave this
  -- reply, or never took effect
  abbrev pub running : Call O → Call O
  running call = record {
    client = call.client;
    begin = call.begin;
    end = if is_completed call then NEVER else call.end;
    op = call.op;
    reply = call.reply;
  }

  -- a call as it stood at a moment. A call that had ended by then is kept as it is; a call that had
  -- begun by then and ended later, or never, was running; a call that began later is left out
  abbrev pub cut_call : ℕ → Call O → Option (Call O)
  cut_call moment call =
      if nat_le call.end moment then Some call
      else if nat_le call.begin moment then Some (running call)
      else None

  -- the cut of a history at a moment: its calls as they stood then, in their order
  abbrev pub cut : ℕ → List (Call O) → List (Call O)
  cut moment calls = filter_map (cut_call moment) calls

  -- the number of a line and its call
  abbrev pub numbered : Line O → ℕ × Call O
  numbered line = (line.number, call_of line)

  -- the call of a line as it stood at a moment, with the number of the line
  abbrev pub line_cut : ℕ → Line O → Option (ℕ × Call O)
  line_cut moment line = option_map (λ call. (line.number, call)) (cut_call moment (call_of line))

-- a cut of a cut at an earlier moment is the cut at that moment
abbrev pub CutOfCut : Type 0 → Type 0
CutOfCut O = (earlier later : ℕ) (calls : List (Call O)) → earlier ≤ later → earlier < NEVER →
    cut earlier (cut later calls) ≡ cut earlier calls

module _ {S O R : Type 0} (X : Rules S O R) where
  -- each cut of a linearizable history is linearizable
  abbrev pub CutIsLinearizable : Type 0
  CutIsLinearizable = (s : S) (moment : ℕ) (calls : List (Call O)) → moment < NEVER →
      IsLinearizable X s calls → IsLinearizable X s (cut moment calls)

  -- if the cut of a history at a moment is not linearizable, no later cut is
  abbrev pub LaterCutsAreIllegal : Type 0
  LaterCutsAreIllegal = (s : S) (earlier later : ℕ) (calls : List (Call O)) → earlier ≤ later →
      later < NEVER → (IsLinearizable X s (cut earlier calls) → ⊥) →
      IsLinearizable X s (cut later calls) → ⊥
