use Rattle.load_tasks.proofs.ReadBack.{all_read}
use Rattle.load_tasks.proofs.laws.drawn_lines_are_read.Goals as goal

pub returns : goal.returns
returns c = all_read c.task_texts_are_read.ensures c.task_texts_fit.ensures
