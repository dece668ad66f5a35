use Rattle.std.proofs.Common.{rules}
use Rattle.stm_object.proofs.Histories.{closes, fits_beginning}
use Rattle.stm_object.proofs.shared.Shared.close.Goals as goal

pub returns-in-Ok-clause-closes : goal.returns-in-Ok-clause-closes
returns-in-Ok-clause-closes g c =
    closes g.S.Object.is _ _ _ _ _ _ (fits_beginning _ _ c.self.invariant.first) c.in-Ok.ensures.ends (search rules)
    (search rules)
