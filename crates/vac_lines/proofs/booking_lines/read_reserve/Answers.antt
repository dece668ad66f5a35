use Rattle.std.proofs.Common.{[], Err, ap, sym, ◌∙◌}
use Rattle.std.proofs.lemmas.Result.{err_from_is_err_and}
use Rattle.vac_lines.specs.LineTable.{reserve_line}
use Rattle.vac_lines.proofs.FewWords.{three_words, four_words}
use Rattle.vac_lines.proofs.booking_lines.read_reserve.Goals as goal

pub returns-in_err-booking_at-in-len4-clause-command : goal.returns-in_err-booking_at-in-len4-clause-command
returns-in_err-booking_at-in-len4-clause-command c =
    let p = err_from_is_err_and c.from_residual-in_err-booking_at-in-len4.result
    c.from_residual-in_err-booking_at-in-len4.ensures.1 in
    let w = four_words c.args.words.now (record { ref_ptr = (0, 0); now = [] }) c.in-len4.len_at_least
    c.in-len4.len_below in
    p.1 ∙ sym (ap reserve_line w ∙ rw (← c.booking_at-in-len4.ensures.booking, c.in_err-booking_at-in-len4.was)
    (ap Err (sym p.2)))

pub returns-in_err-booking_at-in-len3-clause-command : goal.returns-in_err-booking_at-in-len3-clause-command
returns-in_err-booking_at-in-len3-clause-command c =
    let p = err_from_is_err_and c.from_residual.result c.from_residual.ensures.1 in
    let w = three_words c.args.words.now (record { ref_ptr = (0, 0); now = [] }) c.in-len3.len_at_least
    c.in-len3.len_below in
    p.1 ∙ sym (ap reserve_line w ∙ rw (← c.booking_at.ensures.booking, c.in_err-booking_at-in-len3.was)
    (ap Err (sym p.2)))

pub returns-in_err-units_at-in-len4-clause-command : goal.returns-in_err-units_at-in-len4-clause-command
returns-in_err-units_at-in-len4-clause-command c =
    let p = err_from_is_err_and c.from_residual-in_err-units_at-in-len4.result
    c.from_residual-in_err-units_at-in-len4.ensures.1 in
    let w = four_words c.args.words.now (record { ref_ptr = (0, 0); now = [] }) c.in-len4.len_at_least
    c.in-len4.len_below in
    p.1 ∙ sym (ap reserve_line w ∙ rw (
      ← c.booking_at-in-len4.ensures.booking,
      c.in_ok-booking_at-in-len4.was,
      ← c.units_at.ensures.units,
      c.in_err-units_at-in-len4.was,
    ) (ap Err (sym p.2)))
