use Rattle.std.proofs.Common.{rules}
use Rattle.load_tasks.proofs.Drawing.{task_work, task_mixed, task_question, task_no_question}
use Rattle.load_tasks.proofs.tasks.draw_task.Goals as goal

pub returns-then-settings-eq0-clause-drawn : goal.returns-then-settings-eq0-clause-drawn
returns-then-settings-eq0-clause-drawn g c =
    task_work g.D.Draws.leads c.args.settings.now _ _ _ (search rules) c.draw_work.ensures.drawn

pub returns-then-number-settings-clause-drawn : goal.returns-then-number-settings-clause-drawn
returns-then-number-settings-clause-drawn g c =
    task_mixed g.D.Draws.leads c.args.settings.now _ _ _ _ _ (search rules) c.draw_below-number.ensures.drawn
    (task_question g.D.Draws.leads c.args.settings.now _ _ _ _ (search rules) c.draw_question.ensures.drawn)

pub returns-else-number-settings-clause-drawn : goal.returns-else-number-settings-clause-drawn
returns-else-number-settings-clause-drawn g c =
    task_mixed g.D.Draws.leads c.args.settings.now _ _ _ _ _ (search rules) c.draw_below-number.ensures.drawn
    (task_no_question g.D.Draws.leads c.args.settings.now _ _ _ _
    (search rules) c.draw_work-else-number-settings.ensures.drawn)
