use Rattle.std.proofs.Common.{refl}
use Rattle.vac_records.proofs.Written.{booking_made}
use Rattle.vac_records.proofs.booking.init_booking.Goals as goal

pub returns-clause-answer : goal.returns-clause-answer
returns-clause-answer g c =
    booking_made _ _ _ _ _ _ _ (c.args.kind, c.args.id) c.args.num c.args.price _ _ _ _ _ _ _ _
    c.word.ensures c.word-2.ensures c.word-3.ensures c.word-4.ensures
    c.key_of-key.ensures.kind c.key_of-key.ensures.id refl refl
    c.in_ok-store.ensures.answer c.in_ok-store-2.ensures.answer c.in_ok-store-3.ensures.answer
    c.in_ok-store-4.ensures.answer c.in_ok-clear_spare.ensures.answer
