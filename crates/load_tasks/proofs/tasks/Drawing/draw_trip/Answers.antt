use Rattle.std.proofs.Common.{rules, arith}
use Rattle.load_tasks.proofs.Drawing.{trip_drawn}
use Rattle.load_tasks.proofs.Ranges.{most_asks, trip_in}
use Rattle.load_tasks.proofs.tasks.Drawing.draw_trip.Goals as goal

pub returns-then-count-le-INLINE_ASKS-clause-drawn : goal.returns-then-count-le-INLINE_ASKS-clause-drawn
returns-then-count-le-INLINE_ASKS-clause-drawn g c =
    trip_drawn g.D.Draws.leads c.args.self.now.settings.now _ _ _ _ _ _ _ _ c.draw_up_to-count.ensures.drawn
    c.draw_up_to-customer.ensures.drawn c.draw_parts-asks.ensures.drawn (search rules)

pub returns-then-count-le-INLINE_ASKS-clause-range : goal.returns-then-count-le-INLINE_ASKS-clause-range
returns-then-count-le-INLINE_ASKS-clause-range g c =
    let most = most_asks c.args.self.now.settings.now c.args.self.now.in_range in
    let number = c.draw_parts-asks.ensures.number in
    trip_in _ c.draw_up_to-customer.result c.draw_parts-asks.result.items (search rules) (search rules)
    (omega (arith, number, c.draw_up_to-count.ensures.least))
    (omega (arith, number, most, c.draw_up_to-count.ensures.most)) c.draw_parts-asks.ensures.range

pub returns-else-count-le-INLINE_ASKS-clause-drawn : goal.returns-else-count-le-INLINE_ASKS-clause-drawn
returns-else-count-le-INLINE_ASKS-clause-drawn g c =
    trip_drawn g.D.Draws.leads c.args.self.now.settings.now _ _ _ _ _ _ _ _ c.draw_up_to-count.ensures.drawn
    c.draw_up_to-customer.ensures.drawn c.draw_parts-asks-else-count-le-INLINE_ASKS.ensures.drawn (search rules)

pub returns-else-count-le-INLINE_ASKS-clause-range : goal.returns-else-count-le-INLINE_ASKS-clause-range
returns-else-count-le-INLINE_ASKS-clause-range g c =
    let most = most_asks c.args.self.now.settings.now c.args.self.now.in_range in
    let number = c.draw_parts-asks-else-count-le-INLINE_ASKS.ensures.number in
    trip_in _ c.draw_up_to-customer.result c.draw_parts-asks-else-count-le-INLINE_ASKS.result.items (search rules)
    (search rules)
    (omega (arith, number, c.draw_up_to-count.ensures.least))
    (omega (arith, number, most, c.draw_up_to-count.ensures.most))
    c.draw_parts-asks-else-count-le-INLINE_ASKS.ensures.range
