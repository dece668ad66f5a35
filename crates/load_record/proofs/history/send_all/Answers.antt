use Rattle.vac_lines.proofs.Extends.{on_err}
use Rattle.load_record.specs.Rests.{left_of, picked_entry}
use Rattle.load_record.proofs.Texts.{sent_none, sent_one, one_in_part}
use Rattle.load_record.proofs.history.send_all.Goals as goal

pub lines-init : goal.lines-init
lines-init g c = sent_none _ _ _ c.requires.empty

pub lines-preserved : goal.lines-preserved
lines-preserved g c = sent_one _ (left_of c.lines.rests) _ (picked_entry c.in-Some.picked) _ _ _ _ _ c.lines.invariant
    c.in-Some.ensures.some c.in_ok-send_line.ensures.ok

pub returns-in_err-send_line-clause-err : goal.returns-in_err-send_line-clause-err
returns-in_err-send_line-clause-err g c =
    on_err c.from_residual.result (one_in_part _ (left_of c.lines.rests) _
    (picked_entry c.in-Some.picked) _ _ _ _ c.lines.invariant c.in-Some.ensures.some c.in_err-send_line.ensures.err)
