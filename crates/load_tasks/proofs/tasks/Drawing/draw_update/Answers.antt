use Rattle.std.proofs.Common.{rules, arith}
use Rattle.load_tasks.proofs.Drawing.{update_after, update_drawn}
use Rattle.load_tasks.proofs.Ranges.{most_asks, update_in}
use Rattle.load_tasks.proofs.tasks.Drawing.draw_update.Goals as goal

pub returns-then-count-le-INLINE_CHANGES-clause-drawn : goal.returns-then-count-le-INLINE_CHANGES-clause-drawn
returns-then-count-le-INLINE_CHANGES-clause-drawn g c =
    update_drawn g.D.Draws.leads c.args.self.now.settings.now _ _ _ _ _ _ c.draw_up_to-count.ensures.drawn
    c.draw_parts-changes.ensures.drawn (search rules)

pub returns-then-count-le-INLINE_CHANGES-clause-range : goal.returns-then-count-le-INLINE_CHANGES-clause-range
returns-then-count-le-INLINE_CHANGES-clause-range g c =
    let most = most_asks c.args.self.now.settings.now c.args.self.now.in_range in
    let number = c.draw_parts-changes.ensures.number in
    update_in _ c.draw_parts-changes.result.items (search rules)
    (omega (arith, number, c.draw_up_to-count.ensures.least))
    (omega (arith, number, most, c.draw_up_to-count.ensures.most)) c.draw_parts-changes.ensures.range

pub returns-else-count-le-INLINE_CHANGES-clause-drawn : goal.returns-else-count-le-INLINE_CHANGES-clause-drawn
returns-else-count-le-INLINE_CHANGES-clause-drawn g c =
    update_after g.D.Draws.leads c.args.self.now.settings.now _ _ _ _ _ c.draw_up_to-count.ensures.drawn
    c.draw_long_update.ensures.drawn
