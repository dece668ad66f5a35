use Rattle.load_tasks.proofs.Turning as turning
use Rattle.load_tasks.proofs.tasks.turns_make_tasks.Goals as goal

pub returns : goal.returns
returns g c = λ s n a b items q. turning.turns_make_tasks g.D.Draws.leads s n a b items q
