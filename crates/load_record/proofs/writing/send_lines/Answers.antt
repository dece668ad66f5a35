use Rattle.vac_lines.proofs.Extends.{on_err}
use Rattle.load_record.proofs.AttemptTexts.{line_sent, line_in_part}
use Rattle.load_record.proofs.writing.send_lines.Goals as goal

pub returns-in_err-send_line-clause-err : goal.returns-in_err-send_line-clause-err
returns-in_err-send_line-clause-err g c =
    on_err c.from_residual.result
    (line_in_part c.args.lines.now c.loop-line.line-index c.line-item.result c.loop-line-test.true c.line-item.is _ _ _
    c.loop-line.hand.items c.loop-line.invariant c.in_err-send_line.ensures.err)

pub loop-line-preserved : goal.loop-line-preserved
loop-line-preserved g c =
    line_sent c.args.lines.now c.loop-line.line-index c.line-item.result c.loop-line-test.true c.line-item.is _ _ _
    c.loop-line.hand.items _ c.loop-line.invariant c.in_ok-send_line.ensures.ok
