use Rattle.std.proofs.Common.{subst}
use Rattle.stm_logs.specs.Log.{SameAddresses}
use Rattle.stm_logs.proofs.LogLemmas.{locks_follow}
use Rattle.stm_logs.proofs.table.Table.same_addresses.Goals as goal

pub returns : goal.returns
returns g c = subst SameAddresses c.self.view_is (λ a. locks_follow _ _ a c.self.invariant.ready.chained)
