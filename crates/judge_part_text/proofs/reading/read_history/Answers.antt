use Rattle.std.proofs.Common.{◌≡◌, ◌+◌, length, subst, arith}
use Rattle.judge_part_text.specs.Reading.{IsReadLine}
use Rattle.judge_part_text.proofs.Histories.{read_none, line_read, line_damaged, all_read}
use Rattle.judge_part_text.proofs.reading.read_history.Goals as goal

pub lines-init : goal.lines-init
lines-init c = read_none c.args.text.now _ c.new-lines.ensures.items

pub lines-preserved : goal.lines-preserved
lines-preserved c = line_read c.args.text.now c.in-Some.line.now c.lines.lines.items _ c.in-Ok.line c.lines.rest.now
    c.in-Some.behind.now c.lines.invariant c.in-Some.ensures.lines
    (subst (IsReadLine c.in-Some.line.now) c.in-Ok.is c.in_ok-line.ensures) c.in_ok-push-in-Ok.ensures.items

pub returns-in-Err : goal.returns-in-Err
returns-in-Err c =
    let n = c.len.ensures in
    let same : c.len.result + 1 ≡ length c.lines.lines.items + 1 = omega arith in
    line_damaged c.args.text.now c.in-Some.line.now c.lines.lines.items c.in-Err.fault _ c.lines.rest.now
    c.in-Some.behind.now c.lines.invariant c.in-Some.ensures.lines
    (subst (IsReadLine c.in-Some.line.now) c.in-Err.is c.in_ok-line.ensures) same

pub returns : goal.returns
returns c = all_read c.args.text.now c.lines.lines.items c.lines.rest.now c.lines.invariant c.in_default.ensures.lines
