use Rattle.std.proofs.Common.{ap, ◌∙◌}
use Rattle.std.specs.List.{filter_map}
use Rattle.std.proofs.lemmas.List.{take_all}
use Rattle.judge_reservations.specs.Lines.{line_part}
use Rattle.judge_reservations.proofs.Numbered.{line_more, part_calls}
use Rattle.judge_reservations.proofs.history.part_of_history.Goals as goal

pub lines-preserved : goal.lines-preserved
lines-preserved c =
    line_more c.args.scope.now c.args.lines.now _ _ c.lines.at c.index-lines-at.result _ c.lines-test.true
    c.index-lines-at.is c.lines.invariant c.in_ok-line_part.ensures c.in_ok-take_line.ensures

pub returns-clause-lines : goal.returns-clause-lines
returns-clause-lines c =
    c.lines.invariant
    ∙ ap (filter_map (line_part c.args.scope.now)) (take_all c.lines.at c.args.lines.now c.lines-test.false)

pub returns-clause-calls : goal.returns-clause-calls
returns-clause-calls c =
    part_calls c.args.scope.now _ c.args.lines.now (c.lines.invariant
    ∙ ap (filter_map (line_part c.args.scope.now)) (take_all c.lines.at c.args.lines.now c.lines-test.false))
