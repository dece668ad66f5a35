-- Callers that went on.
use Rattle.std.proofs.Common.{◌∙◌, ap, subst}
use Rattle.stm_region.specs.Shown.{RegionShown}
use Rattle.stm_object.specs.Callers.{GoesOn}
use Rattle.vac_manager.specs.Called.{CallerShown}

pub went_both : (y z w : CallerShown) → GoesOn y z → GoesOn z w → GoesOn y w
went_both y z w e f = f ∙ ap (λ (x : CallerShown). record x { user = record x.user { value = w.user.value } }) e

-- what is known with the manager that a caller went on with
pub of_manager : (P : RegionShown → Type 0) (y z : CallerShown) → GoesOn y z → P z.shared → P y.shared
of_manager P y z e h = subst P (ap (λ (x : CallerShown). x.shared) e) h
