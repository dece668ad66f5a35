-- The effect of a call or of a line on a judge.
use Rattle.std.specs.Prelude.{Bool, ◌≡◌, ◌⊎◌, ◌+◌, ◌^◌, Option, Some, None, Result, List, ◌∷◌, map}
use Rattle.vac_model.specs.State.{State}
use Rattle.vac_model.specs.Run.{run}
use Rattle.vac_lines.specs.declared.stream_fault.StreamFault.{StreamFault}
use Rattle.vac_lines.specs.declared.stream_fault.StreamFault.TheVariants as fault
use Rattle.judge_object.specs.Keeping.{Keeps}
use Rattle.judge_calls.specs.declared.fault.CallFault.{CallFault}
use Rattle.judge_calls.specs.declared.judge.Judge.{Judge}
use Rattle.judge_calls.specs.declared.verdict.CallViolation.{CallViolation}
use Rattle.judge_calls.specs.declared.verdict.CallViolation.TheVariants.{Client, Time, Reply}
use Rattle.judge_calls.specs.declared.verdict.Verdict.{Verdict}
use Rattle.judge_calls.specs.Call.{Call}
use Rattle.judge_object.specs.Call.{span_of}
use Rattle.judge_calls.specs.Order.{call_breaks_client, call_breaks_time, wrong_of}
use Rattle.judge_calls.specs.Verdict.{judged}
use Rattle.std.specs.Prelude.{true, false}

-- the judge has judged these calls, and they leave the state s
pub record Follows (judge : Judge) (s : State) (earlier : List Call) : Type 0 where
  pub state : judge.manager ≡ s
  pub spans : Keeps judge.spans (map span_of earlier)

-- the result of checking the times of a call agrees with two tests: whether the call breaks the
-- order of its client, and whether it breaks the order of time
abbrev pub TimesSay : Bool → Bool → Option CallViolation → Type 0
TimesSay client time None = (client ≡ false) × (time ≡ false)
TimesSay client time (Some Client) = client ≡ true
TimesSay client time (Some Time) = (client ≡ false) × (time ≡ true)
TimesSay client time (Some (Reply expected)) = ⊥

-- the first fault of the times of a call after earlier calls, or none
abbrev pub JudgesTimes : List Call → Call → Option CallViolation → Type 0
JudgesTimes earlier call found =
    TimesSay (call_breaks_client earlier call) (call_breaks_time earlier call) found

-- the first fault of a call, or none; a call without a fault was taken by the judge
pub record JudgesCall (after : Judge) (s : State) (earlier : List Call) (call : Call)
    (found : Option CallViolation) : Type 0 where
  pub found_is : wrong_of s earlier call ≡ found
  pub taken : found ≡ None → Follows after (run s call.op).0 (call ∷ earlier)

-- the judge has taken a line: the verdict on this line and the following lines is the verdict on
-- the following lines
pub record Takes (judge after : Judge) (line : Result Call CallFault) : Type 0 where
  pub on : (s : State) (earlier : List Call) → Follows judge s earlier →
      (t : State) × (calls : List Call) × Follows after t calls
      × ((more : List (Result Call CallFault)) →
      judged s earlier (line ∷ more) ≡ judged t calls more)

-- the line decides the verdict, whatever lines follow
pub record DecidesVerdict (judge : Judge) (line : Result Call CallFault) (verdict : Verdict)
    : Type 0 where
  pub on : (s : State) (earlier : List Call) → Follows judge s earlier →
      (more : List (Result Call CallFault)) → judged s earlier (line ∷ more) ≡ verdict

-- the reason why a judge did not judge a line: memory was refused, or the count of calls has
-- reached its bound
-- Not said: that memory was refused if Memory is returned.
abbrev pub IsJudgeStop : Judge → StreamFault → Type 0
IsJudgeStop judge stop =
    (stop ≡ fault.Memory) ⊎ ((stop ≡ fault.Bound) × (judge.spans.count + 1 ≡ 2 ^ 64))
