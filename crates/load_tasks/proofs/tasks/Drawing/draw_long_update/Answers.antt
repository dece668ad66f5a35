use Rattle.std.proofs.Common.{rules, arith}
use Rattle.load_tasks.proofs.Drawing.{changes_drawn}
use Rattle.load_tasks.proofs.Ranges.{most_asks, update_in}
use Rattle.load_tasks.proofs.tasks.Drawing.draw_long_update.Goals as goal

pub draw_parts-changes-requires : goal.draw_parts-changes-requires
draw_parts-changes-requires g c =
    let most = most_asks c.args.self.now.settings.now c.args.self.now.in_range in
    omega (arith, most, c.requires.few)

pub returns-clause-drawn : goal.returns-clause-drawn
returns-clause-drawn g c =
    changes_drawn g.D.Draws.leads c.args.self.now.settings.now _ _ c.args.count _ _ c.draw_parts-changes.ensures.drawn
    (search rules)

pub returns-clause-range : goal.returns-clause-range
returns-clause-range g c =
    let most = most_asks c.args.self.now.settings.now c.args.self.now.in_range in
    let number = c.draw_parts-changes.ensures.number in
    update_in _ c.draw_parts-changes.result.items (search rules)
    (omega (arith, number, c.requires.some)) (omega (arith, number, most, c.requires.few))
    c.draw_parts-changes.ensures.range
