use Rattle.std.proofs.Common.{◌∙◌, sym, inl}
use Rattle.judge_options.proofs.asked.history_asked.Goals as goal

pub judging_of-requires-clause-level : goal.judging_of-requires-clause-level
judging_of-requires-clause-level c = sym c.level_of.ensures ∙ c.in-Some.is

pub returns-in-Some : goal.returns-in-Some
returns-in-Some c = λ words names. (c.judging_of.ensures.room, inl (_, names, c.judging_of.ensures))

pub returns-in-None : goal.returns-in-None
returns-in-None c = λ words names. (_, inl names, sym c.level_of.ensures ∙ c.in-None.is)
