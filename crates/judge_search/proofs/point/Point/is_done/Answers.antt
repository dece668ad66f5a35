use Rattle.judge_search.specs.Calls.{calls_of}
use Rattle.judge_search.specs.Point.{made_of}
use Rattle.judge_search.proofs.Tries.{all_choices, tries_apart}
use Rattle.judge_search.proofs.point.Point.is_done.Goals as goal

pub returns-clause-all : goal.returns-clause-all
returns-clause-all g c = all_choices (g.M.Object.rules) (made_of c.args.self.now)
    (calls_of c.args.calls.now.lines.items)

pub returns-clause-apart : goal.returns-clause-apart
returns-clause-apart g c = tries_apart (g.M.Object.rules) (made_of c.args.self.now)
    (calls_of c.args.calls.now.lines.items)
