use Rattle.std.proofs.Common.{refl}
use Rattle.load_record.proofs.Left.{left_at, picked, taken_end}
use Rattle.load_record.proofs.merging.take_least.Goals as goal

pub returns-clause-some : goal.returns-clause-some
returns-clause-some c =
    let rests = c.args.rests.now in
    let r = c.index-rests-place.result in
    let best = c.in_ok-place.ensures in
    picked rests c.in_ok-place.place r.client c.in_ok-place.note.now _ refl best.1 best.2 r.notes.now
    (left_at rests c.in_ok-place.place r best.0 c.index-rests-place.is) (taken_end r.notes.now 1)
