use Rattle.judge_search.proofs.Deciding.{searches_end}
use Rattle.judge_search.proofs.laws.a_search_ends.Goals as goal

pub returns : goal.returns
returns g c = searches_end (g.M.Object.rules)
