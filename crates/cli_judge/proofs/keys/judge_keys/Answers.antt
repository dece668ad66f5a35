use Rattle.std.proofs.Common.{◌∙◌, sym}
use Rattle.judge_coverage.specs.Watching.{inner_of}
use Rattle.cli_judge.specs.Keys.{JudgesKeysAsked}
use Rattle.cli_judge.proofs.Stores.{keys_refused, keys_asked, report_refused, report_asked}
use Rattle.cli_judge.proofs.Reported.{beside, through}
use Rattle.cli_judge.proofs.keys.judge_keys.Goals as goal

pub returns-then-lacks_whole-clause-judged : goal.returns-then-lacks_whole-clause-judged
returns-then-lacks_whole-clause-judged g c = keys_refused (g.F.Open.holds c.args.files.now) c.args.how c.refuse.result
    (g.R.Read.remaining (inner_of c.args.input.now)) (g.W.Write.contents c.args.output.now)
    (sym c.lacks_whole.ensures ∙ c.if-lacks_whole.true) c.refuse.ensures

pub returns-then-lacks_whole-clause-reported : goal.returns-then-lacks_whole-clause-reported
returns-then-lacks_whole-clause-reported g c = report_refused c.args.how c.refuse.result
    (g.E.Write.contents c.args.errors.now) (g.E.Write.contents c.refuse.new.errors)
    (sym c.lacks_whole.ensures ∙ c.if-lacks_whole.true)

pub returns-clause-judged : goal.returns-clause-judged
returns-clause-judged g c =
    through (λ a b. JudgesKeysAsked (g.F.Open.holds c.args.files.now) c.args.how c.judge_keys_of-status.result
    (g.R.Read.remaining a) (g.R.Read.remaining b) (g.W.Write.contents c.args.output.now)
    (g.W.Write.contents c.judge_keys_of-status.new.output))
    _ _ _ _ c.watch.ensures.inner c.measure_calls.ensures.inner
    (keys_asked _ _ _ _ _ _ _ (sym c.lacks_whole.ensures ∙ c.if-lacks_whole.false)
    c.judge_keys_of-status.ensures.judged)

pub returns-clause-reported : goal.returns-clause-reported
returns-clause-reported g c =
    report_asked c.args.how c.judge_keys_of-status.result (g.E.Write.contents c.args.errors.now)
    (g.E.Write.contents c.report_calls.new.errors) (sym c.lacks_whole.ensures ∙ c.if-lacks_whole.false)
    (beside _ _ _ _ _ _ _ c.judge_keys_of-status.ensures.untold (c.measure_calls.result, c.report_calls.ensures))
