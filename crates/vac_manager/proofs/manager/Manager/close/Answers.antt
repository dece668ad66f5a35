use Rattle.std.proofs.Common.{rules}
use Rattle.vac_manager.proofs.Openings.{closes}
use Rattle.vac_manager.proofs.manager.Manager.close.Goals as goal

pub returns-in-Ok-clause-closes : goal.returns-in-Ok-clause-closes
returns-in-Ok-clause-closes c =
    closes _ _ _ _ _ _ c.self.invariant c.in-Ok.ensures.closes.ends (search rules) (search rules)
