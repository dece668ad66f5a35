use Rattle.judge_object.specs.declared.level.Level.TheVariants as level
use Rattle.cli_judge.proofs.Judgement.{judges_as}
use Rattle.cli_judge.proofs.searching.judge_found_text.Goals as goal

pub returns-in-Linearizable : goal.returns-in-Linearizable
returns-in-Linearizable g c = judges_as level.Linearizable _ _ _ _ _ _ c.in-Linearizable.is (_, c.judge_alone.ensures)

pub returns-in-Sequential : goal.returns-in-Sequential
returns-in-Sequential g c = judges_as level.Sequential _ _ _ _ _ _ c.in-Sequential.is c.write_done.ensures

pub returns-in-Serializable : goal.returns-in-Serializable
returns-in-Serializable g c = judges_as level.Serializable _ _ _ _ _ _ c.in-Serializable.is
    c.write_done-in-Serializable.ensures
