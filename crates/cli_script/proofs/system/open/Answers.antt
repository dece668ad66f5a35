use Rattle.cli_script.proofs.Opening.{opened}
use Rattle.cli_script.proofs.system.open.Goals as goal

pub returns-in-Ok-clause-opened : goal.returns-in-Ok-clause-opened
returns-in-Ok-clause-opened c = opened c.args.blocks _ c.in-Ok.opened.0 c.in-Ok.opened.1 c.in-Ok.ensures.ok
