use Rattle.std.proofs.Common.{◌∙◌, ap}
use Rattle.vac_lines.proofs.Extends.{on_err}
use Rattle.vac_lines.proofs.Texts.{on_ok_map, on_err_map}
use Rattle.load_record.specs.Rests.{left_of}
use Rattle.load_record.specs.History.{kept_by}
use Rattle.load_record.proofs.Texts.{nothing_of_it, prefix_of_it, rest_of_it, rest_in_part, write_fault}
use Rattle.load_record.proofs.Written.{text_read}
use Rattle.load_record.proofs.history.write_history.Goals as goal

pub returns-then-not-are_whole-clause-err : goal.returns-then-not-are_whole-clause-err
returns-then-not-are_whole-clause-err g c = nothing_of_it (kept_by c.args.opening.now c.args.clients.now) _
    (text_read c.args.opening.now c.args.clients.now c.requires.few)

pub returns-in_err-rests-clause-err : goal.returns-in_err-rests-clause-err
returns-in_err-rests-clause-err g c = on_err c.from_residual.result
    (nothing_of_it (kept_by c.args.opening.now c.args.clients.now) _
    (text_read c.args.opening.now c.args.clients.now c.requires.few))

pub returns-in_err-send_all-clause-err : goal.returns-in_err-send_all-clause-err
returns-in_err-send_all-clause-err g c =
    on_err c.from_residual-in_err-send_all.result (prefix_of_it (kept_by c.args.opening.now c.args.clients.now) _
    (text_read c.args.opening.now c.args.clients.now c.requires.few) _
    (left_of c.as_mut_slice.result.now)
    (ap left_of c.as_mut_slice.ensures.value ∙ c.in_ok-rests.ensures) c.in_err-send_all.ensures.err)

pub returns-clause-ok : goal.returns-clause-ok
returns-clause-ok g c = on_ok_map c.send_rest.result
    (λ w. rest_of_it (kept_by c.args.opening.now c.args.clients.now) _
    (text_read c.args.opening.now c.args.clients.now c.requires.few) (g.W.Write.contents c.send_all.new.output)
    (left_of c.as_mut_slice.result.now)
    (ap left_of c.as_mut_slice.ensures.value ∙ c.in_ok-rests.ensures)
    (g.W.Write.contents c.send_rest.new.output) c.send_all.new.hand.items c.in_ok-send_all.ensures.ok
    (rw c.as_slice.ensures.value at w)) c.send_rest.ensures.ok

pub returns-clause-err : goal.returns-clause-err
returns-clause-err g c = on_err_map c.send_rest.result
    (λ w. rest_in_part (kept_by c.args.opening.now c.args.clients.now) _
    (text_read c.args.opening.now c.args.clients.now c.requires.few) (g.W.Write.contents c.send_all.new.output)
    (left_of c.as_mut_slice.result.now)
    (ap left_of c.as_mut_slice.ensures.value ∙ c.in_ok-rests.ensures)
    (g.W.Write.contents c.send_rest.new.output) c.send_all.new.hand.items c.in_ok-send_all.ensures.ok
    (rw c.as_slice.ensures.value at w)) c.send_rest.ensures.err

pub returns-clause-fault : goal.returns-clause-fault
returns-clause-fault g c = write_fault c.send_rest.result c.send_rest.ensures.fault
