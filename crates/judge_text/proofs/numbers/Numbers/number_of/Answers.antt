use Rattle.std.proofs.Common.{sym}
use Rattle.judge_text.proofs.numbers.Numbers.number_of.Goals as goal

pub returns-in-Some-clause-number : goal.returns-in-Some-clause-number
returns-in-Some-clause-number c =
    c.requires.formed.found c.args.name.now c.in-Some.number.now (sym c.in-Some.ensures.value)
