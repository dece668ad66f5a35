use Rattle.vac_lines.proofs.Extends.{on_err}
use Rattle.vac_lines.proofs.Written.{whole_kept}
use Rattle.vac_lines.proofs.writing.write_and_flush.Goals as goal

pub returns-clause-err : goal.returns-clause-err
returns-clause-err g c = on_err c.map_err.result (whole_kept _ _ _ c.args.text.now c.in_ok-write_all.ensures.ok
    c.flush.ensures.bytes)
