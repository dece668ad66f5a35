use Rattle.std.proofs.Common.{◌<◌, length, rules}
use Rattle.judge_calls.proofs.Handed.{first_line, only_line}
use Rattle.judge_part_text.proofs.reading.next_line.Goals as goal

pub returns-in-Some-clause-lines : goal.returns-in-Some-clause-lines
returns-in-Some-clause-lines c = first_line c.args.text.now c.in-Some.line.now c.in-Some.behind.now c.in-Some.ensures.0
    c.in-Some.ensures.1

pub returns-clause-lines : goal.returns-clause-lines
returns-clause-lines c =
    let some : 0 < length c.args.text.now = search rules in
    only_line c.args.text.now c.in_default.ensures some
