use Rattle.std.proofs.Common.{◌+◌, ◌++◌, take, arith}
use Rattle.vac_lines.proofs.LineCuts.{kept_prefix}
use Rattle.judge_coverage.proofs.Taking.{kept_text}
use Rattle.judge_coverage.proofs.collector.Collector.keep.Goals as goal

pub returns-clause-line : goal.returns-clause-line
returns-clause-line c =
    let before = c.args.self.now in
    let more = c.args.more.now in
    let kept = c.min-kept.result in
    kept_text c.extend_from_slice.result c.extend_from_slice.new.self.items before.line.items (take kept more)
    (take (before.longest + 1) (before.line.items ++ more)) c.extend_from_slice.ensures.items
    (kept_prefix (before.longest + 1) before.line.items more kept (omega arith) (omega arith))
