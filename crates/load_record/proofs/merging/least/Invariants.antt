use Rattle.load_record.specs.Rests.{left_of, IsBest}
use Rattle.load_record.proofs.merging.least.Given as goal

abbrev pub invariant-clients : goal.invariant-clients
invariant-clients l = IsBest (left_of l.rests) l.place l.best
