use Rattle.std.proofs.Common.{◌≡◌, ◌∷◌, Some, ap, sym, subst, ◌∙◌}
use Rattle.std.specs.FinMap as map
use Rattle.vac_model.specs.declared.items.Booking.{Booking}
use Rattle.vac_model.specs.State.{Place, item_of, with_item}
use Rattle.vac_model.specs.Step.{give_back, give_back_all}
use Rattle.vac_model.specs.Fits.{CanGiveBack}
use Rattle.vac_model.proofs.Departure.{can_give_more}
use Rattle.vac_sequential.proofs.tables.Tables.give_back_all.Goals as goal

pub loop-kind-preserved-in-Continue-1 : goal.loop-kind-preserved-in-Continue-1
loop-kind-preserved-in-Continue-1 c =
    let s = c.loop-kind.self in
    let first : Place × Booking = ((c.in-Some.kind, c.in-Some.id), c.in-Some.booking) in
    let rest = map.entries c.pop_first.new.self in
    let es : map.entries c.loop-kind.bookings ≡ first ∷ rest = c.in-Some.ensures.some in
    let there : item_of s c.in-Some.kind c.in-Some.id ≡ Some c.in-Some-item.item = sym c.in-Some-item.ensures in
    let after : c.insert_item.new.self ≡ give_back s (c.in-Some.kind, c.in-Some.id) c.in-Some.booking.units
    (item_of s c.in-Some.kind c.in-Some.id) =
    c.in_ok-insert_item.ensures ∙ ap (with_item s c.in-Some.kind c.in-Some.id) c.given_back.ensures
    ∙ ap (give_back s (c.in-Some.kind, c.in-Some.id) c.in-Some.booking.units) (sym there) in
    record {
      rest = ap (λ t. give_back_all t rest) after ∙ ap (give_back_all s) (sym es) ∙ c.loop-kind.invariant.rest;
      can = subst (λ t. CanGiveBack t rest) (sym after) (can_give_more s first rest
          (subst (CanGiveBack s) es c.loop-kind.invariant.can));
    }
