use Rattle.stm_logs.specs.declared.keys.TheConstants.{POSITIONS}
use Rattle.stm_logs.proofs.KeyLemmas.{empty_keys}
use Rattle.stm_logs.proofs.keys.Keys.clear.Goals as goal

pub returns : goal.returns
returns c = empty_keys POSITIONS
