-- Conditions under which the calls of a history are legal in the order in which they are written.
use Rattle.std.specs.Prelude.{◌≡◌, ◌↔◌, ℕ, true, List, [], ◌∷◌, ◌++◌, map}
use Rattle.stm_core.specs.Client.{Record}
use Rattle.stm_core.specs.Invariant.{Sorted}
use Rattle.vac_model.specs.State.{State, empty_state}
use Rattle.vac_manager.specs.Legal.{IsLegal, AreVersioned}
use Rattle.vac_manager.specs.declared.note.CompletedCall.{CompletedCall}
use Rattle.vac_manager.specs.Keeping.{IsNoted}
use Rattle.judge_calls.specs.Call.{Call}
use Rattle.judge_object.specs.Linear.{CallsTakeTime, CallsAreSequential, CallsKeepPrecedence}
use Rattle.judge_calls.specs.Laws.{GiveReplies}
use Rattle.judge_calls.specs.Laws.{IsLinearization, state_after}
use Rattle.judge_calls.specs.Verdict.{verdict_on, is_legal}
use Rattle.judge_calls.specs.CallText.{history_text, IsTheirHistory}
use Rattle.load_record.specs.Turns.{EachInTurn}
use Rattle.load_record.specs.Order.{Entry, AreOrdered, IsMerged}
use Rattle.load_record.specs.History.{call_of_entry}

-- the calls and the records correspond one to one, in any order, and each call is noted by its
-- record
abbrev pub AreCallsOf : List CompletedCall → List Record → Type 0
AreCallsOf [] records = records ≡ []
AreCallsOf (n ∷ notes) records =
    (first : List Record) × (r : Record) × (more : List Record) × (records ≡ first ++ r ∷ more)
    × IsNoted n r × AreCallsOf notes (first ++ more)

-- the calls are those of a history of records, one call for each record: the history is legal for
-- a system of n blocks with this final state, is sorted, and has one writer a version and readers
-- that wrote nothing
pub record AreRecorded (n : ℕ) (all : List Entry) (last : State) : Type 0 where
  pub history : List Record
  pub legal : IsLegal (empty_state n) history last
  pub sorted : Sorted history
  pub versioned : AreVersioned history
  pub calls : AreCallsOf (map (λ e. e.note) all) history

-- the calls are legal in this order for a system of n blocks, apart from the real-time order
-- between two clients: run one after the other they give their replies and leave this state; no
-- call ends before it begins; and the calls of each client do not overlap and are in their order
pub record AreLegal (n : ℕ) (calls : List Call) (last : State) : Type 0 where
  pub replies : GiveReplies (empty_state n) calls
  pub leaves : state_after (empty_state n) calls ≡ last
  pub times : CallsTakeTime calls
  pub clients : CallsAreSequential calls

-- calls that are written in the order of their records, those of each client in turn, are legal in
-- this order
abbrev pub OrderedCallsAreLegal : Type 0
OrderedCallsAreLegal = (n : ℕ) (kept : List (List CompletedCall)) (all : List Entry)
    (last : State) →
    AreRecorded n all last → IsMerged kept all → EachInTurn kept →
    AreOrdered (map (λ e. e.note) all) → AreLegal n (map call_of_entry all) last

-- calls that are legal in their order form a linearization if and only if no call that ended
-- before another began comes after that other call
-- Not said: that the order keeps real time. The clock readings of two clients do not show which of
-- them read first.
abbrev pub LegalUpToPrecedence : Type 0
LegalUpToPrecedence = (n : ℕ) (calls : List Call) (last : State) → AreLegal n calls last →
    IsLinearization n calls ↔ CallsKeepPrecedence calls

-- the text of the calls is legal for the judge of a system of n blocks if and only if no call that
-- ended before another began comes after that other call
abbrev pub JudgedByPrecedence : ℕ → List ℕ → List Call → Type 0
JudgedByPrecedence n text calls = (is_legal (verdict_on n text) ≡ true) ↔ CallsKeepPrecedence calls

-- the text of legal calls, if it is read as these calls, is judged by real-time precedence alone
abbrev pub TextsAreLegalUpToPrecedence : Type 0
TextsAreLegalUpToPrecedence = (n : ℕ) (calls : List Call) (last : State) →
    IsTheirHistory calls → AreLegal n calls last →
    JudgedByPrecedence n (history_text calls) calls
