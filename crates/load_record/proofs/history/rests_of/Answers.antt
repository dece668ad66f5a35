use Rattle.std.proofs.Common.{refl}
use Rattle.load_record.proofs.Starts.{starts_more}
use Rattle.load_record.proofs.history.rests_of.Goals as goal

pub clients-preserved : goal.clients-preserved
clients-preserved g c =
    rw c.in_ok-push-2.ensures.items (starts_more c.args.opening.now c.args.clients.now c.clients.rests.items _
    c.clients.place c.index-clients-place.result
    c.clients.invariant c.clients-test.true c.index-clients-place.is refl c.notes-in-clients.ensures)
