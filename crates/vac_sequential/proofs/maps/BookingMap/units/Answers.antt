use Rattle.std.proofs.Common.{◌<◌, ◌^◌, sum_by, ap, sym, subst, ◌∙◌}
use Rattle.vac_model.proofs.Views.{values_seen}
use Rattle.vac_model.proofs.Places.{place_cmp_total}
use Rattle.vac_model.specs.declared.items.Booking.{Booking}
use Rattle.vac_sequential.proofs.maps.BookingMap.units.Goals as goal

pub units_of_all-requires : goal.units_of_all-requires
units_of_all-requires c =
    subst (λ xs. sum_by {X = Booking} (λ b. b.units) xs < 2 ^ 64)
    (values_seen place_cmp_total c.self.inside.entries c.args.self.now c.self.invariant c.self.view_is) c.requires

pub returns : goal.returns
returns c = c.units_of_all.ensures ∙ ap (sum_by (λ b. b.units))
    (sym (values_seen place_cmp_total c.self.inside.entries c.args.self.now c.self.invariant c.self.view_is))
