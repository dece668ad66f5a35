use Rattle.judge_text.proofs.Whole.{whole}
use Rattle.judge_text.proofs.object_laws.parts_make_a_linearizable_history.Goals as goal

pub returns : goal.returns
returns g c = whole (g.M.Object.rules) (g.M.Named.name)
