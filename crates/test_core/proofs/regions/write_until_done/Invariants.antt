use Rattle.std.proofs.Common.{◌≡◌}
use Rattle.stm_core.specs.Core.{IsFreeHanded}
use Rattle.test_core.proofs.regions.write_until_done.Given as goal

abbrev pub invariant-loop : goal.invariant-loop
invariant-loop l = (l.client.table ≡ l.region.table) × IsFreeHanded l.client.value
