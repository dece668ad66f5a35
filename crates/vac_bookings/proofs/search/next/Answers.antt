use Rattle.std.proofs.Common.{arith}
use Rattle.vac_bookings.proofs.Reading.{booking_in, next_leads, followed_small, next_followed}
use Rattle.vac_bookings.proofs.search.next.Goals as goal

pub word-requires : goal.word-requires
word-requires g c = let i = booking_in _ _ c.requires.booking (g.met.M.TxRead.seen c.args.memory.now) in omega arith

pub load-requires : goal.load-requires
load-requires g c = let i = booking_in _ _ c.requires.booking (g.met.M.TxRead.seen c.args.memory.now) in omega arith

pub block_led_to-requires : goal.block_led_to-requires
block_led_to-requires g c = followed_small _ _ _ _
    (next_leads _ _ c.requires.booking (g.met.M.TxRead.seen c.args.memory.now))
    (rw c.word.ensures at c.in_ok-pointer.ensures.answer) (g.met.M.TxRead.seen c.load.new.memory)

pub returns-clause-answer : goal.returns-clause-answer
returns-clause-answer g c = rw c.block_led_to.ensures (next_followed _ _ _ _ c.requires.booking
    (g.met.M.TxRead.seen c.args.memory.now) (rw c.word.ensures at c.in_ok-pointer.ensures.answer)
    (g.met.M.TxRead.seen c.load.new.memory))
