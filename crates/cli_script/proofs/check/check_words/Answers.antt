use Rattle.std.proofs.Common.{inl}
use Rattle.std.proofs.KnownBytes.{Appends-nil}
use Rattle.vac_lines.proofs.Extends.{on_err}
use Rattle.cli_script.proofs.Checking.{checked_in_part, checked, line_is}
use Rattle.cli_script.proofs.check.check_words.Goals as goal

pub returns-in_err-verdict-clause-err : goal.returns-in_err-verdict-clause-err
returns-in_err-verdict-clause-err g c = on_err c.from_residual.result (inl (Appends-nil _))

pub returns-in_err-print-clause-err : goal.returns-in_err-print-clause-err
returns-in_err-print-clause-err g c = on_err c.from_residual-in_err-print.result (inl (Appends-nil _))

pub returns-in_err-write_and_flush-clause-err : goal.returns-in_err-write_and_flush-clause-err
returns-in_err-write_and_flush-clause-err g c =
    let line = line_is _ _ _ _ c.new-line.ensures.items c.in_ok-print.ensures.ok c.as_slice.ensures.value in
    on_err c.from_residual-in_err-write_and_flush.result (checked_in_part _ _ _ _ c.in_ok-verdict.verdict _
    c.in_ok-verdict.ensures line c.in_err-write_and_flush.ensures.err)

pub returns-clause-ok : goal.returns-clause-ok
returns-clause-ok g c =
    let line = line_is _ _ _ _ c.new-line.ensures.items c.in_ok-print.ensures.ok c.as_slice.ensures.value in
    checked _ _ _ _ _ c.in_ok-verdict.verdict _ c.in_ok-verdict.ensures line c.in_ok-write_and_flush.ensures.ok
    c.is_sound.ensures
