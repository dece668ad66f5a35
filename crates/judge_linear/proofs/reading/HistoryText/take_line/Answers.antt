use Rattle.std.proofs.Common.{◌≡◌, ◌+◌, ◌++◌, ◌∷◌, [], Some, true, cond, length, refl, sym, ap, ◌∙◌, subst}
use Rattle.std.proofs.lemmas.List.{length-map}
use Rattle.std.specs.Bool.{MatchBool}
use Rattle.judge_calls.specs.declared.verdict.Verdict.TheVariants.{Illegal}
use Rattle.judge_calls.specs.declared.verdict.CallViolation.TheVariants.{Client}
use Rattle.judge_calls.specs.Parts.{shown_call}
use Rattle.judge_calls.specs.Order.{call_breaks_client}
use Rattle.judge_search.specs.Calls.{call_of, calls_of}
use Rattle.judge_linear.specs.Reading.{Took, wrong_behind}
use Rattle.judge_linear.proofs.reading.HistoryText.take_line.Goals as goal

pub returns : goal.returns
returns c = λ held.
    let before = c.args.self.now.history in
    let calls = calls_of before.lines.items in
    let call = shown_call c.in-Ok.call in
    let breaks : call_breaks_client calls call ≡ true =
    subst (λ b. MatchBool b (Took before c.take.new.self c.args.line.now call) (call_breaks_client calls call ≡ true))
    c.if-branch.false (c.in_ok-take.ensures held) in
    record {
      verdict = Illegal c.number-number.result Client;
      wrong = refl;
      is = λ more.
          ap (λ r. wrong_behind calls (r ∷ more)) c.in-Ok.ensures.call
          ∙ ap (λ b. cond b (Some (Illegal (length calls + 1) Client)) (wrong_behind (calls ++ call ∷ []) more)) breaks
          ∙ ap (λ n. Some (Illegal (n + 1) Client)) (length-map before.lines.items call_of)
          ∙ ap (λ n. Some (Illegal n Client)) (sym c.number-number.ensures);
    }
