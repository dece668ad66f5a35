use Rattle.std.proofs.Common.{Some, None, ap, ◌∙◌}
use Rattle.judge_object.specs.declared.span.Misplaced.TheVariants as place
use Rattle.judge_calls.specs.Parts.{shown_call}
use Rattle.judge_calls.proofs.Keeping.{span_says}
use Rattle.judge_calls.proofs.judge.Judge.judge_times.Goals as goal

pub returns-in-Some-Client : goal.returns-in-Some-Client
returns-in-Some-Client c = λ s earlier f.
    span_says earlier (shown_call c.args.call.now) c.span.result (Some place.Client) c.span.ensures
    (c.find.ensures _ f.spans ∙ c.in-Some-Client.is ∙ ap Some c.in-Some-Client.field-0-is)

pub returns-in-Some-Time : goal.returns-in-Some-Time
returns-in-Some-Time c = λ s earlier f.
    span_says earlier (shown_call c.args.call.now) c.span.result (Some place.Time) c.span.ensures
    (c.find.ensures _ f.spans ∙ c.in-Some-Time.is ∙ ap Some c.in-Some-Time.field-0-is)

pub returns-in-None : goal.returns-in-None
returns-in-None c = λ s earlier f.
    span_says earlier (shown_call c.args.call.now) c.span.result None c.span.ensures
    (c.find.ensures _ f.spans ∙ c.in-None.is)
