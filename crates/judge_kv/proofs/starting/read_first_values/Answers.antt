use Rattle.std.proofs.Common.{subst}
use Rattle.judge_kv.specs.Starting.{IsFirstRead, line_first}
use Rattle.judge_kv.proofs.Firsts.{first_more, first_fault}
use Rattle.judge_kv.proofs.starting.read_first_values.Goals as goal

pub returns-in-Err : goal.returns-in-Err
returns-in-Err g c =
    let h = c.lines.invariant in
    let line = c.first_line.result.0.now in
    let fault = subst (IsFirstRead (line_first h.firsts line)) c.in-Err.is (c.in_ok-key.ensures h.firsts h.begin) in
    first_fault c.args.text.now (g.F.StartValues.held c.lines.firsts) c.lines.number c.lines.rest.now line
    c.first_line.result.1.now c.in-Err.fault h c.first_line.ensures.lines fault

pub lines-preserved : goal.lines-preserved
lines-preserved g c =
    let h = c.lines.invariant in
    let line = c.first_line.result.0.now in
    let first = subst (IsFirstRead (line_first h.firsts line)) c.in-Ok.is (c.in_ok-key.ensures h.firsts h.begin) in
    first_more c.args.text.now (g.F.StartValues.held c.lines.firsts)
    (g.F.StartValues.held c.set_value.new.self) c.lines.number
    c.lines.rest.now line c.first_line.result.1.now (c.in-Ok.key.items, c.in-Ok.value.items) h
    c.first_line.ensures.lines c.first_line.ensures.less first c.in_ok-set_value-in-Ok.ensures
