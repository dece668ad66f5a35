use Rattle.std.proofs.Common.{◌∙◌, sym, inl, inr}
use Rattle.judge_options.proofs.asked.keys_asked.Goals as goal

pub keys_of-requires-clause-level : goal.keys_of-requires-clause-level
keys_of-requires-clause-level c = sym c.level_of.ensures ∙ c.in-Some.is

pub returns-in-Some : goal.returns-in-Some
returns-in-Some c = λ words names. (_, names, c.keys_of.ensures)

pub returns-in-None : goal.returns-in-None
returns-in-None c = λ words names. (_, inr (inr (inl names)), sym c.level_of.ensures ∙ c.in-None.is)
