use Rattle.std.proofs.Common.{rules}
use Rattle.stm_core.specs.Core.{IsFreeHanded}
use Rattle.stm_region.specs.Closed.{Ends}
use Rattle.stm_object.specs.Object.{IsLawfulEntry}
use Rattle.stm_object.proofs.Adding.{unplaced_still}
use Rattle.stm_object.proofs.Histories.{closes, fits_beginning}
use Rattle.stm_object.proofs.shared.Shared.renew.Goals as goal

pub invariant_of-result-in-Ok : goal.invariant_of-result-in-Ok
invariant_of-result-in-Ok g c =
    let free : IsFreeHanded c.in-Ok.client.value = search rules in
    let unplaced = unplaced_still c.user.inside.client.value c.in-Ok.client.value (search rules) (search rules) in
    (free, unplaced)

pub returns-in-Ok-clause-words : goal.returns-in-Ok-clause-words
returns-in-Ok-clause-words g c = (
  c.in-Ok.ensures.words.0,
  closes g.S.Object.is _ _ _ _ _ _ (fits_beginning _ _ c.self.invariant.first) c.in-Ok.ensures.words.1 (search rules)
      (search rules),
)

pub returns-in-Err-Closed-clause-refused : goal.returns-in-Err-Closed-clause-refused
returns-in-Err-Closed-clause-refused g c =
    let ends : Ends (IsLawfulEntry g.S.Object.is) c.self.inside.region c.user.inside.client.value
    c.in-Err-Closed.words.items c.in-Err-Closed.last = search rules in (
      closes g.S.Object.is _ _ _ _ _ _ (fits_beginning _ _ c.self.invariant.first) ends (search rules) (search rules),
      search rules,
    )
