use Rattle.vac_bookings.proofs.Reading.{head_leads, followed_small, first_followed}
use Rattle.vac_bookings.proofs.search.first.Goals as goal

pub block_led_to-requires : goal.block_led_to-requires
block_led_to-requires g c = followed_small _ _ _ _ (head_leads _ _ c.requires.list) c.in_ok-pointer.ensures.answer
    (g.met.M.TxRead.seen c.load.new.memory)

pub returns-clause-answer : goal.returns-clause-answer
returns-clause-answer g c = rw c.block_led_to.ensures (first_followed _ _ _ _ c.requires.list
    c.in_ok-pointer.ensures.answer (g.met.M.TxRead.seen c.load.new.memory))
