use Rattle.judge_text.proofs.OfOne.{parts}
use Rattle.judge_text.proofs.object_laws.a_linearizable_history_has_linearizable_parts.Goals as goal

pub returns : goal.returns
returns g c = parts (g.M.Object.rules) (g.M.Named.name)
