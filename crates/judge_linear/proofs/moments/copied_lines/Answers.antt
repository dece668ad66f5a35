use Rattle.std.proofs.Common.{◌∙◌, ap, map}
use Rattle.std.proofs.lemmas.List.{take_all}
use Rattle.judge_reservations.specs.Lines.{numbered}
use Rattle.judge_linear.proofs.CutCalls.{copies_more}
use Rattle.judge_linear.proofs.moments.copied_lines.Goals as goal

pub lines-init : goal.lines-init
lines-init c = ap (map numbered) c.new-copies.ensures.items

pub lines-preserved : goal.lines-preserved
lines-preserved c =
    copies_more c.args.lines.now _ _ c.lines.at c.index-lines-at.result _ c.lines-test.true c.index-lines-at.is
    c.lines.invariant c.in_ok-copied_line.ensures c.in_ok-push.ensures.items

pub returns : goal.returns
returns c = c.lines.invariant ∙ ap (map numbered) (take_all c.lines.at c.args.lines.now c.lines-test.false)
