use Rattle.load_tasks.specs.declared.settings.TheConstants.{PERCENT}
use Rattle.load_tasks.specs.Draws.{below}
use Rattle.load_tasks.specs.Tasks.{question_at}
use Rattle.load_tasks.proofs.Drawing.{drawn_after}
use Rattle.load_tasks.proofs.tasks.Drawing.draw_question.Goals as goal

pub returns-clause-drawn : goal.returns-clause-drawn
returns-clause-drawn g c =
    drawn_after g.D.Draws.leads (below PERCENT) (λ r. question_at c.args.self.now.settings.now r) _ _ _ _ _
    c.draw_below-number.ensures.drawn c.draw_question_at.ensures.drawn
