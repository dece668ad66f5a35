use Rattle.vac_sequential.proofs.Alike.{maps_alike}
use Rattle.vac_sequential.proofs.maps.BookingMapEntry.is_same.Goals as goal

pub returns : goal.returns
returns c =
    maps_alike c.self.inside.entries c.other.inside.entries c.args.self.now c.args.other.now c.eq.result
    c.self.invariant c.other.invariant
    c.self.view_is c.other.view_is c.eq.ensures
