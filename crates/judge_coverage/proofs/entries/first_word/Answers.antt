use Rattle.std.proofs.Common.{[]}
use Rattle.judge_coverage.proofs.Heads.{first_word, last_word}
use Rattle.judge_coverage.proofs.entries.first_word.Goals as goal

pub returns-in-Some : goal.returns-in-Some
returns-in-Some c = (_, first_word _ _ _ c.in-Some.ensures.0 c.in-Some.ensures.1)

pub returns-in-None : goal.returns-in-None
returns-in-None c = ([], last_word _ c.in-None.ensures)
