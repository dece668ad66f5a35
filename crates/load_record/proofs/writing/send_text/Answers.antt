use Rattle.std.proofs.Common.{map}
use Rattle.load_record.proofs.Texts.{write_fault}
use Rattle.vac_lines.proofs.Texts.{on_ok_map, on_err_map, sent_end, sent_end_in_part}
use Rattle.load_record.specs.Lines.{line_entry, lines_text}
use Rattle.load_record.proofs.writing.send_text.Goals as goal

pub returns-clause-ok : goal.returns-clause-ok
returns-clause-ok g c =
    on_ok_map c.send_rest.result
    (λ w. sent_end _ _ _ c.send_lines.new.hand.items (lines_text (map line_entry c.args.lines.now))
    c.in_ok-send_lines.ensures.ok (rw c.as_slice.ensures.value at w)) c.send_rest.ensures.ok

pub returns-clause-err : goal.returns-clause-err
returns-clause-err g c =
    on_err_map c.send_rest.result
    (λ w. sent_end_in_part _ _ _ c.send_lines.new.hand.items (lines_text (map line_entry c.args.lines.now))
    c.in_ok-send_lines.ensures.ok (rw c.as_slice.ensures.value at w)) c.send_rest.ensures.err

pub returns-clause-fault : goal.returns-clause-fault
returns-clause-fault g c = write_fault c.send_rest.result c.send_rest.ensures.fault
