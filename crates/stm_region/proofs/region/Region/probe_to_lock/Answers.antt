use Rattle.std.proofs.Common.{ap}
use Rattle.stm_region.specs.Shown.{ClientShown}
use Rattle.stm_region.proofs.Probing.{found_it}
use Rattle.stm_region.proofs.region.Region.probe_to_lock.Goals as goal

pub invariant_of-result : goal.invariant_of-result
invariant_of-result g c = record {
  last = found_it _ c.args.lock c.probe-word.result
      (ap (λ (x : ClientShown). x.value.attempt.last) c.probe-word.ensures.client);
}
