use Rattle.std.proofs.Common.{◌≡◌}
use Rattle.stm_core.specs.Core.{IsFreeHanded}
use Rattle.test_stm.proofs.threads.move_many.Given as goal

abbrev pub invariant-loop-i : goal.invariant-loop-i
invariant-loop-i l = (l.client.table ≡ l.region.table) × IsFreeHanded l.client.value
