use Rattle.std.proofs.Common.{sym, ◌∙◌, ap, subst, Bool, is_some}
use Rattle.judge_coverage.specs.Watching.{inner_of}
use Rattle.cli_judge.specs.Asking.{JudgesAsked}
use Rattle.cli_judge.specs.Reporting.{ReportsBeside}
use Rattle.cli_judge.proofs.Judgement.{refused_as, asked_as}
use Rattle.cli_judge.proofs.Reported.{beside, reports_asked, reports_refused, through}
use Rattle.cli_judge.proofs.judging.judge.Goals as goal

pub returns-in-Some-clause-judged : goal.returns-in-Some-clause-judged
returns-in-Some-clause-judged g c = refused_as (g.F.Open.holds c.args.files.now) c.args.how c.refuse.result
    (g.R.Read.remaining (inner_of c.args.input.now)) (g.W.Write.contents c.args.output.now)
    (sym c.refusal_of.ensures ∙ ap is_some c.in-Some.is) c.refuse.ensures

pub returns-in-Some-clause-reported : goal.returns-in-Some-clause-reported
returns-in-Some-clause-reported g c = reports_refused c.args.how c.refuse.result
    (g.E.Write.contents c.args.errors.now) (g.E.Write.contents c.refuse.new.errors)
    (sym c.refusal_of.ensures ∙ ap is_some c.in-Some.is)

pub returns-clause-judged : goal.returns-clause-judged
returns-clause-judged g c =
    through (λ a b. JudgesAsked (g.F.Open.holds c.args.files.now) c.args.how c.judge_as-status.result
    (g.R.Read.remaining a) (g.R.Read.remaining b) (g.W.Write.contents c.args.output.now)
    (g.W.Write.contents c.judge_as-status.new.output))
    _ _ _ _ c.watch.ensures.inner c.measure_calls.ensures.inner
    (asked_as _ _ _ _ _ _ _ (sym c.refusal_of.ensures ∙ ap is_some c.in_default.is)
    c.judge_as-status.ensures.judged)

pub returns-clause-reported : goal.returns-clause-reported
returns-clause-reported g c =
    reports_asked c.args.how c.judge_as-status.result (g.E.Write.contents c.args.errors.now)
    (g.E.Write.contents c.report_calls.new.errors) (sym c.refusal_of.ensures ∙ ap is_some c.in_default.is)
    (subst (λ (has_workload : Bool). ReportsBeside c.args.how.search.progress c.args.how.search.stats has_workload
    c.judge_as-status.result (g.E.Write.contents c.args.errors.now) (g.E.Write.contents c.report_calls.new.errors))
    c.is_some.ensures
    (beside _ _ _ _ _ _ _ c.judge_as-status.ensures.untold (c.measure_calls.result, c.report_calls.ensures)))
