use Rattle.std.proofs.lemmas.List.{take_all}
use Rattle.judge_text.proofs.Counted.{clients_of_lines}
use Rattle.judge_text.proofs.counting.count_clients.Goals as goal

pub returns : goal.returns
returns g c =
    clients_of_lines c.args.lines.now c.len.result c.lines.place c.lines.clients c.len.ensures.len c.len.ensures.ordered
    c.lines.invariant (take_all c.lines.place c.args.lines.now c.lines-test.false)
