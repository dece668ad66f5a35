use Rattle.load_tasks.specs.Draws.{always, followed_by}
use Rattle.load_tasks.specs.Tasks.{up_to, kind}
use Rattle.load_tasks.proofs.Drawing.{drawn_after, drawn_then_always}
use Rattle.load_tasks.proofs.tasks.Tuple2KindU32Part.draw.Goals as goal

pub returns-clause-drawn : goal.returns-clause-drawn
returns-clause-drawn g c =
    drawn_after g.D.Draws.leads kind (λ k. followed_by (up_to c.args.drawing.now.settings.now.items)
    (λ id. always (k, id))) _ _ _ _
    _
    c.draw_kind-kind.ensures
    (drawn_then_always g.D.Draws.leads (up_to c.args.drawing.now.settings.now.items)
    (λ id. (c.draw_kind-kind.result, id)) _ _ _ c.draw_up_to.ensures.drawn)
