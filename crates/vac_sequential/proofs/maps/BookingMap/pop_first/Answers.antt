use Rattle.std.proofs.Common.{◌≡◌, List, [], ◌∷◌, Option, Some, None, IfSome, IfNone, IsSome, ◌↔◌, ◌<◌, length, refl}
use Rattle.std.proofs.Common.{arith, ap, sym, subst, ◌∙◌}
use Rattle.std.specs.FinMap as map
use Rattle.std.specs.BTreeMap as tree
use Rattle.vac_model.specs.declared.items.Booking.{Booking}
use Rattle.vac_model.specs.State.{Place}
use Rattle.vac_model.proofs.Views.{entries_of_sorted, not_some}
use Rattle.vac_model.proofs.Places.{place_cmp_total, pair_cmp}
use Rattle.vac_sequential.proofs.maps.BookingMap.pop_first.Goals as goal

-- an equation of lists along two others
some_along : (o : Option (Place × Booking)) (es fs es' fs' : List (Place × Booking)) → es' ≡ es → fs' ≡ fs
    → IfSome o (λ b. es ≡ b ∷ fs) → IfSome o (λ b. es' ≡ b ∷ fs')
some_along None es fs es' fs' e f h = tt
some_along (Some b) es fs es' fs' e f h = e ∙ h ∙ ap (λ r. b ∷ r) (sym f)

none_along : (o : Option (Place × Booking)) (es es' : List (Place × Booking)) → es' ≡ es →
    (IsSome o ↔ (0 < length es)) → IfNone o (es' ≡ [])
none_along None [] es' e h = e
none_along None (x ∷ es) es' e h = absurd (not_some {X = Place × Booking} None refl (h.1 (omega arith)))
none_along (Some b) es es' e h = tt

pub invariant_of-self : goal.invariant_of-self
invariant_of-self c = subst (λ R. tree.IsOrdered R c.pop_first-first.new.self) pair_cmp
    c.pop_first-first.ensures.ordered

pub returns-clause-some : goal.returns-clause-some
returns-clause-some c =
    some_along c.pop_first-first.result c.self.inside.entries.entries c.pop_first-first.new.self.entries _ _
    (ap map.entries (sym c.self.view_is) ∙ entries_of_sorted place_cmp_total c.self.inside.entries.entries
    c.self.invariant)
    (entries_of_sorted place_cmp_total c.pop_first-first.new.self.entries
    (subst (λ R. tree.IsOrdered R c.pop_first-first.new.self) pair_cmp c.pop_first-first.ensures.ordered))
    c.pop_first-first.ensures.removal

pub returns-clause-none : goal.returns-clause-none
returns-clause-none c =
    none_along c.pop_first-first.result c.self.inside.entries.entries _
    (ap map.entries (sym c.self.view_is) ∙ entries_of_sorted place_cmp_total c.self.inside.entries.entries
    c.self.invariant)
    c.pop_first-first.ensures.variant
