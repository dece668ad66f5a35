use Rattle.std.proofs.Common.{◌∙◌, arith}
use Rattle.judge_coverage.proofs.Keys.{met_is}
use Rattle.judge_coverage.proofs.meetings.Meetings.met_by.Goals as goal

pub returns : goal.returns
returns c =
    c.saturating_sub.ensures
    ∙ met_is c.args.self.now c.args.call.now c.running-running.result c.running.result c.requires (omega arith)
    c.running-running.ensures c.running.ensures
