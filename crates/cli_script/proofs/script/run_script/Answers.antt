use Rattle.vac_lines.proofs.Extends.{on_err}
use Rattle.cli_script.proofs.Running.{wrote_nothing}
use Rattle.cli_script.proofs.script.run_script.Goals as goal

pub returns-in_err-manager-clause-err : goal.returns-in_err-manager-clause-err
returns-in_err-manager-clause-err g c = on_err c.from_residual.result (wrote_nothing c.args.blocks _ _)
