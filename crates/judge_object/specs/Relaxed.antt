-- A history without the order that a level does not keep.
use Rattle.std.specs.Prelude.{◌≡◌, ⊤, ℕ, ◌+◌, true, List, [], ◌∷◌, map, if◌then◌else◌}
use Rattle.judge_object.specs.declared.level.Level.{Level}
use Rattle.judge_object.specs.declared.level.Level.TheVariants as level
use Rattle.judge_object.specs.declared.line.Line.{Line}
use Rattle.judge_object.specs.Rules.{given_text}
use Rattle.judge_object.specs.Call.{Call, is_completed}
use Rattle.judge_object.specs.Orders.{of_client}

module _ {O : Type 0} where
  -- a call without its times, as a call of a client: a completed call takes no time
  abbrev pub untimed_as : ℕ → Call O → Call O
  untimed_as client call = record {
    client = client;
    begin = 0;
    end = if is_completed call then 0 else call.end;
    op = call.op;
    reply = call.reply;
  }

  -- a call of its client without its times
  abbrev pub untimed : Call O → Call O
  untimed call = untimed_as call.client call

  -- the call of the line with this number, without the order that the level does not keep
  abbrev pub relaxed_call : Level → ℕ → Call O → Call O
  relaxed_call level.Linearizable number call = call
  relaxed_call level.Sequential number call = untimed call
  relaxed_call level.Serializable number call = untimed_as number call

  -- calls without their times, each of a client of its own; the clients are numbered from here on
  abbrev pub alone : ℕ → List (Call O) → List (Call O)
  alone client [] = []
  alone client (call ∷ calls) = untimed_as client call ∷ alone (client + 1) calls

  -- the calls without the order that the level does not keep: without times, each client's calls
  -- keep their order and no other; with a client for each call, no order is kept
  abbrev pub relax : Level → List (Call O) → List (Call O)
  relax level.Linearizable calls = calls
  relax level.Sequential calls = map untimed calls
  relax level.Serializable calls = alone 1 calls

  -- each call but the last one is completed
  abbrev pub OnlyLastIsPending : List (Call O) → Type 0
  OnlyLastIsPending [] = ⊤
  OnlyLastIsPending (call ∷ []) = ⊤
  OnlyLastIsPending (call ∷ (next ∷ calls)) =
      (is_completed call ≡ true) × OnlyLastIsPending (next ∷ calls)

  -- a pending call is its client's last call
  abbrev pub PendingAreLast : List (Call O) → Type 0
  PendingAreLast calls = (client : ℕ) → OnlyLastIsPending (of_client client calls)

  -- the call of a line
  abbrev pub call_of : Line O → Call O
  call_of line = record {
    client = line.client;
    begin = line.begin;
    end = line.end;
    op = line.op;
    reply = given_text line.reply;
  }

  -- the client of a line's call, if only the order stays that the level keeps
  abbrev pub client_at : Level → Line O → ℕ
  client_at kept line = (relaxed_call kept line.number (call_of line)).client

  -- a line without the order that the level does not keep
  pub record IsRelaxed (kept : Level) (line relaxed : Line O) : Type 0 where
    pub number : relaxed.number ≡ line.number
    pub text : relaxed.text ≡ line.text
    pub call : call_of relaxed ≡ relaxed_call kept line.number (call_of line)
