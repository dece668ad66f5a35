use Rattle.std.proofs.Common.{rules}
use Rattle.load_tasks.proofs.Drawing.{drawn_below}
use Rattle.load_tasks.proofs.tasks.draw_below.Goals as goal

pub returns-clause-drawn : goal.returns-clause-drawn
returns-clause-drawn g c = search (rules, drawn_below)
