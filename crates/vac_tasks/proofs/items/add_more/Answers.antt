use Rattle.std.proofs.Common.{arith}
use Rattle.vac_tasks.proofs.ItemMore.{total_small, past_limit, more_room, more_done}
use Rattle.vac_tasks.proofs.items.add_more.Goals as goal

pub overflow_add-total : goal.overflow_add-total
overflow_add-total g c =
    let l = total_small _ _ _ _ _ _ c.requires.state c.requires.item c.in_ok-total.ensures.answer
    (g.met.M.TxRead.seen c.total_at.new.memory) in
    omega (arith, c.ranges.num.fits)

pub returns-then-total-num-gt-MOST_TOTAL-clause-answer : goal.returns-then-total-num-gt-MOST_TOTAL-clause-answer
returns-then-total-num-gt-MOST_TOTAL-clause-answer g c = past_limit _ _ _ _ _ _ _ _ c.requires.item
    c.in_ok-total.ensures.answer c.if-total-num-gt-MOST_TOTAL.true

pub add_units-requires-clause-room : goal.add_units-requires-clause-room
add_units-requires-clause-room g c = more_room _ _ c.args.kind c.args.id _ _ _ c.requires.state c.requires.item
    (omega (arith, c.ranges.num.fits)) c.in_ok-total.ensures.answer

pub returns-clause-answer : goal.returns-clause-answer
returns-clause-answer g c =
    more_done _ _ _ _ _ _ _ _ _ _ c.requires.item c.requires.range c.in_ok-total.ensures.answer
    c.if-total-num-gt-MOST_TOTAL.false c.in_ok-add_units.ensures.answer c.in_ok-add_units.ensures.idle
    c.in_ok-replace_price.ensures.answer c.in_ok-replace_price.ensures.idle
