-- Writers and readers of versions.
use Rattle.std.proofs.Common.{ℕ, List, [], ◌∷◌, subst}
use Rattle.stm_core.specs.Client.{Client, Record, of_renewal, shed}
use Rattle.stm_core.specs.Records.{Ordered}
use Rattle.stm_core.proofs.Lones.{at_map}
use Rattle.stm_region.specs.Shown.{RegionShown}
use Rattle.stm_region.specs.Closed.{Ends}
use Rattle.vac_manager.specs.Law.{IsLawful}
use Rattle.vac_manager.specs.Legal.{HaveOneWriter, AreVersioned}

-- records in order have one writer a version
one_writer : (rs : List Record) → Ordered rs → HaveOneWriter rs
one_writer [] o = tt
one_writer (x ∷ rs) o = (λ r i renewal version w w'. (o.0 r i).1 w w' version, one_writer rs o.1)

-- those that the closing client made in the last renewal
pub versioned : (region : RegionShown) (v : Client) (words : List ℕ) (version : ℕ) →
    Ends (λ (tag : List ℕ) reads writes. IsLawful tag reads writes) region v words version →
    AreVersioned (of_renewal region.renewal v.records)
versioned region v words version k =
    let filed = k.rule.inv.filed.filed k.number (shed k.core.renewal v)
    (at_map (shed k.core.renewal) k.core.clients k.number v k.member) in
    let now : AreVersioned (of_renewal k.core.renewal v.records) = record {
      writers = one_writer (of_renewal k.core.renewal v.records) filed.ordered;
      readers = λ r i e. (filed.told r i).reader e;
    } in
    subst (λ (n : ℕ). AreVersioned (of_renewal n v.records)) k.renewal now
