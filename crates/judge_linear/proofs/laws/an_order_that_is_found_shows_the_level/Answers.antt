use Rattle.judge_linear.proofs.Lawful.{order_is_at_level}
use Rattle.judge_linear.proofs.laws.an_order_that_is_found_shows_the_level.Goals as goal

pub returns : goal.returns
returns c = order_is_at_level
