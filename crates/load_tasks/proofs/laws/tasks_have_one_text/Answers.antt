use Rattle.load_tasks.proofs.OneText.{one_text}
use Rattle.load_tasks.proofs.laws.tasks_have_one_text.Goals as goal

pub returns : goal.returns
returns c = one_text
