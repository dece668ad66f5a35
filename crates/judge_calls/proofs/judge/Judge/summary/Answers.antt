use Rattle.std.proofs.Common.{◌≡◌, ℕ, ap, ◌∙◌}
use Rattle.std.proofs.lemmas.List.{length-map}
use Rattle.vac_model.specs.declared.replies.Report.{Report}
use Rattle.vac_model.specs.State.{report}
use Rattle.judge_object.proofs.Order.{clients_mapped}
use Rattle.judge_calls.specs.declared.verdict.Summary.{Summary}
use Rattle.judge_object.specs.Call.{span_of}
use Rattle.judge_calls.proofs.judge.Judge.summary.Goals as goal

-- a summary of these
abbrev summed : ℕ → ℕ → Report → Summary
summed calls clients report = record { calls = calls; clients = clients; report = report }

summary_same : (a b x y : ℕ) (r q : Report) → a ≡ x → b ≡ y → r ≡ q → summed a b r ≡ summed x y q
summary_same a b x y r q e f g = cc

pub returns : goal.returns
returns c = λ s earlier f.
    summary_same _ _ _ _ _ _ (c.count.ensures ∙ f.spans.count_is ∙ length-map earlier span_of)
    (c.clients.ensures _ f.spans ∙ clients_mapped span_of earlier)
    (c.report.ensures.report ∙ ap report f.state)
