use Rattle.vac_sequential.proofs.Woven.{changed_there}
use Rattle.vac_sequential.proofs.maps.IdMap+BookingMap.rebook.Goals as goal

pub returns : goal.returns
returns c = changed_there c.args.self.now c.change.new.self c.args.customer _ c.in_ok-change.ensures
