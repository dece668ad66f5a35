use Rattle.std.proofs.Common.{◌∙◌, sym, inr}
use Rattle.judge_options.proofs.asked.queue_asked.Goals as goal

pub search_of-requires-clause-level : goal.search_of-requires-clause-level
search_of-requires-clause-level c = sym c.level_of.ensures ∙ c.in-Some.is

pub returns-in-Some : goal.returns-in-Some
returns-in-Some c = λ words names. (_, names, c.search_of.ensures)

pub returns-in-None : goal.returns-in-None
returns-in-None c = λ words names. (_, inr (inr (inr names)), sym c.level_of.ensures ∙ c.in-None.is)
