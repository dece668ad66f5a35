use Rattle.std.proofs.Common.{◌+◌, ◌*◌, [], ◌∷◌, Some}
use Rattle.vac_model.specs.declared.commands.Command.TheVariants.{Add}
use Rattle.load_tasks.specs.declared.settings.TheConstants.{UNITS, LEVELS}
use Rattle.load_tasks.specs.Draws.{always, below, followed_by}
use Rattle.load_tasks.specs.Tasks.{price}
use Rattle.load_tasks.proofs.Drawing.{drawn_after, drawn_then_always}
use Rattle.load_tasks.proofs.opening.draw_stock.Goals as goal

pub returns-clause-drawn : goal.returns-clause-drawn
returns-clause-drawn g c =
    let leads = g.D.Draws.leads in
    let kind = c.args.kind in
    let id = c.args.id in
    let level = c.draw_below.result in
    drawn_after leads (below LEVELS) (λ level. followed_by price (λ p. always
    (Add kind id ((level + 1) * UNITS) (Some p) ∷ []))) _ _ _ _ _ c.draw_below.ensures.drawn
    (drawn_then_always leads price (λ p. Add kind id ((level + 1) * UNITS) (Some p) ∷ []) _ _ _
    c.draw_price-price.ensures.drawn)
