use Rattle.std.proofs.Common.{◌≡◌, true}
use Rattle.stm_core.specs.Client.{decided}
use Rattle.stm_region.specs.Findings.{Decides}
use Rattle.stm_attempt.proofs.ValidateAll.{IsValidating}
use Rattle.stm_attempt.proofs.validating.validate_reads.Given as goal

abbrev pub invariant-loop-i : goal.invariant-loop-i
invariant-loop-i g l =
    (l.client.table ≡ l.initial.client.table) ×
    IsValidating l.region l.initial.client.value l.client.value l.i ×
    (decided l.client.value ≡ true → Decides g.L.Law.fits g.L.Law.lawful l.region l.client.value)
