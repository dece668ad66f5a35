use Rattle.load_tasks.specs.Draws.{below, followed_by}
use Rattle.load_tasks.specs.Tasks.{up_to, kind, change_of}
use Rattle.load_tasks.proofs.Drawing.{drawn_after}
use Rattle.load_tasks.proofs.Ranges.{both_hold}
use Rattle.load_tasks.proofs.tasks.CommandPart.draw.Goals as goal

pub returns-clause-drawn : goal.returns-clause-drawn
returns-clause-drawn g c =
    let leads = g.D.Draws.leads in
    let ids = up_to c.args.drawing.now.settings.now.items in
    let k = c.draw_kind-kind.result in
    let id = c.draw_up_to-id.result in
    drawn_after leads kind (λ k. followed_by ids (λ id. followed_by (below 2) (λ o. change_of k id o))) _ _ _ _ _
    c.draw_kind-kind.ensures
    (drawn_after leads ids (λ id. followed_by (below 2) (λ o. change_of k id o)) _ _ _ _ _ c.draw_up_to-id.ensures.drawn
    (drawn_after leads (below 2) (λ o. change_of k id o) _ _ _ _ _ c.draw_below-number.ensures.drawn
    c.draw_change_of.ensures.drawn))

pub returns-clause-range : goal.returns-clause-range
returns-clause-range g c = both_hold _ _ c.draw_change_of.ensures.change c.draw_change_of.ensures.range
