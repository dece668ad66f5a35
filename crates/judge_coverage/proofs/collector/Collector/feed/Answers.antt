use Rattle.judge_coverage.proofs.Taking.{taken_line, taken_rest}
use Rattle.judge_coverage.proofs.collector.Collector.feed.Goals as goal

pub lines-preserved : goal.lines-preserved
lines-preserved c = λ longest bytes h.
    taken_line longest bytes _ c.lines.rest.now c.in-Some.line.now c.in-Some.behind.now c.lines.self
    c.end_line.new.self (c.lines.invariant longest bytes h) c.in-Some.ensures.0 c.in-Some.ensures.1
    c.in_ok-end_line.ensures

pub returns : goal.returns
returns c = λ longest bytes h.
    taken_rest longest bytes _ c.lines.rest.now c.lines.self c.keep.new.self (c.lines.invariant longest bytes h)
    c.in_default.ensures c.in_ok-keep.ensures.longest c.in_ok-keep.ensures.entries c.in_ok-keep.ensures.line
