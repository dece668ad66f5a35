use Rattle.std.proofs.Common.{rules}
use Rattle.load_tasks.proofs.Drawing.{task_after, task_trip, task_leave, task_update}
use Rattle.load_tasks.proofs.tasks.Drawing.draw_work.Goals as goal

pub returns-then-number-self-clause-drawn : goal.returns-then-number-self-clause-drawn
returns-then-number-self-clause-drawn g c =
    task_after g.D.Draws.leads c.args.self.now.settings.now _ _ _ _ _ c.draw_below-number.ensures.drawn
    (task_trip g.D.Draws.leads c.args.self.now.settings.now _ _ _ _ (search rules) c.draw_trip.ensures.drawn)

pub returns-then-number-eq1-clause-drawn : goal.returns-then-number-eq1-clause-drawn
returns-then-number-eq1-clause-drawn g c =
    task_after g.D.Draws.leads c.args.self.now.settings.now _ _ _ _ _ c.draw_below-number.ensures.drawn
    (task_leave g.D.Draws.leads c.args.self.now.settings.now _ _ _ _ (search rules)
    (search rules) c.draw_leave.ensures.drawn)

pub returns-else-number-eq1-clause-drawn : goal.returns-else-number-eq1-clause-drawn
returns-else-number-eq1-clause-drawn g c =
    task_after g.D.Draws.leads c.args.self.now.settings.now _ _ _ _ _ c.draw_below-number.ensures.drawn
    (task_update g.D.Draws.leads c.args.self.now.settings.now _ _ _ _ (search rules)
    (search rules) c.draw_update.ensures.drawn)
