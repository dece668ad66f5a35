use Rattle.std.proofs.Common.{◌≡◌, take}
use Rattle.load_record.specs.Order.{entries_from}
use Rattle.load_record.specs.Rests.{left_of}
use Rattle.load_record.specs.History.{kept_by}
use Rattle.load_record.proofs.history.rests_of.Given as goal

abbrev pub invariant-clients : goal.invariant-clients
invariant-clients g l = left_of l.rests.items ≡ entries_from 0 (kept_by l.opening (take l.place l.clients))
