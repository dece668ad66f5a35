use Rattle.std.proofs.Common.{◌≡◌}
use Rattle.stm_core.specs.Core.{IsFreeHanded}
use Rattle.test_core.proofs.renewals.renew_times.Given as goal

abbrev pub invariant-loop : goal.invariant-loop
invariant-loop g l = (l.client.table ≡ l.region.table) × IsFreeHanded l.client.value
