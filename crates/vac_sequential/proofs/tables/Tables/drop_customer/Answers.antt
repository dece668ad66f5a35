use Rattle.std.proofs.Common.{◌≡◌, Some, MatchOption, sym, subst, ◌∙◌}
use Rattle.std.specs.FinMap as map
use Rattle.vac_model.specs.State.{bookings_of, without_customer}
use Rattle.vac_model.specs.Fits.{CanGiveBack}
use Rattle.vac_model.proofs.Departure.{can_depart}
use Rattle.vac_sequential.proofs.tables.Tables.drop_customer.Goals as goal

pub give_back_all-requires : goal.give_back_all-requires
give_back_all-requires c =
    let old = c.args.self.now in
    let new = c.take_customer.new.self in
    let there : bookings_of old c.args.id ≡ Some c.in-Some.bookings = sym c.in_ok-taken.ensures.taken ∙ c.in-Some.is in
    let gone : new ≡ without_customer old c.args.id =
    subst (λ o. MatchOption o (new ≡ old) (λ _. new ≡ without_customer old c.args.id)) c.in-Some.is
    c.in_ok-taken.ensures.left in
    subst (λ s. CanGiveBack s (map.entries c.in-Some.bookings)) (sym gone)
    (can_depart old c.args.id c.in-Some.bookings c.requires.balanced there)
