-- What judging a line says of the verdict on it and those behind it.
use Rattle.std.proofs.Common.{◌≡◌, ℕ, ◌+◌, List, ◌∷◌, length, Option, Some, None, Result, Ok, refl, sym, ap, ◌∙◌}
use Rattle.std.proofs.lemmas.List.{length-map}
use Rattle.vac_model.specs.State.{State}
use Rattle.vac_model.specs.Run.{run}
use Rattle.judge_calls.specs.declared.fault.CallFault.{CallFault}
use Rattle.judge_calls.specs.declared.judge.Judge.{Judge}
use Rattle.judge_calls.specs.declared.verdict.CallViolation.{CallViolation}
use Rattle.judge_calls.specs.declared.verdict.Verdict.TheVariants.{Illegal}
use Rattle.judge_calls.specs.Call.{Call}
use Rattle.judge_object.specs.Call.{span_of}
use Rattle.judge_calls.specs.Verdict.{judged, unless_wrong}
use Rattle.judge_calls.specs.Judging.{Follows, JudgesCall, Takes, DecidesVerdict}

-- a call was judged as the next
abbrev pub JudgesNext : Judge → Judge → Call → Option CallViolation → Type 0
JudgesNext judge after call found =
    (s : State) (earlier : List Call) → Follows judge s earlier → JudgesCall after s earlier call found

-- the number of the next line
number_is : (judge : Judge) (line : ℕ) (s : State) (earlier : List Call) → line ≡ judge.spans.count + 1 →
    Follows judge s earlier → length earlier + 1 ≡ line
number_is judge line s earlier n f = sym (n ∙ ap (λ k. k + 1) (f.spans.count_is ∙ length-map earlier span_of))

pub ends_wrong : (judge after : Judge) (read : Result Call CallFault) (call : Call) (line : ℕ) (wrong : CallViolation) →
    read ≡ Ok call → line ≡ judge.spans.count + 1
    → JudgesNext judge after call (Some wrong) → DecidesVerdict judge read (Illegal line wrong)
ends_wrong judge after read call line wrong e n h = record {
  on = λ s earlier f more. ap (λ l. judged s earlier (l ∷ more)) e
      ∙ ap (λ w. unless_wrong w (length earlier + 1) (judged (run s call.op).0 (call ∷ earlier) more))
      (h s earlier f).found_is
      ∙ ap (λ k. Illegal k wrong) (number_is judge line s earlier n f);
}

pub takes_call : (judge after : Judge) (read : Result Call CallFault) (call : Call) → read ≡ Ok call →
    JudgesNext judge after call None → Takes judge after read
takes_call judge after read call e h = record {
  on = λ s earlier f. (
    (run s call.op).0,
    call ∷ earlier,
    (h s earlier f).taken refl,
    λ more. ap (λ l. judged s earlier (l ∷ more)) e
        ∙ ap (λ w. unless_wrong w (length earlier + 1) (judged (run s call.op).0 (call ∷ earlier) more))
        (h s earlier f).found_is,
  );
}
