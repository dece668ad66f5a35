use Rattle.std.proofs.Common.{sym, subst}
use Rattle.stm_logs.specs.Log.{IsStriped}
use Rattle.stm_logs.proofs.StripeLemmas.{striped_empty}
use Rattle.test_stm.proofs.logs.new_log.Goals as goal

pub returns : goal.returns
returns g c = subst (λ w. IsStriped w 10) (sym c.new.ensures) (striped_empty 10)
