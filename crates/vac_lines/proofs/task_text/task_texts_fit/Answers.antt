use Rattle.vac_lines.proofs.Lengths.{task_fits}
use Rattle.vac_lines.proofs.task_text.task_texts_fit.Goals as goal

pub returns : goal.returns
returns c = λ t h f. task_fits t h f
