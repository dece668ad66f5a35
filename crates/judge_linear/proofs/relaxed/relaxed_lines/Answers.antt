use Rattle.std.proofs.Common.{[], sym, subst}
use Rattle.std.proofs.lemmas.List.{take_all}
use Rattle.judge_linear.specs.Relaxed.{AreRelaxedLines}
use Rattle.judge_linear.proofs.Freed.{relaxed_more}
use Rattle.judge_linear.proofs.relaxed.relaxed_lines.Goals as goal

pub lines-init : goal.lines-init
lines-init c = subst (AreRelaxedLines c.args.level []) (sym c.new-relaxed.ensures.items) tt

pub lines-preserved : goal.lines-preserved
lines-preserved c =
    relaxed_more c.args.level c.args.lines.now _ _ c.lines.at c.index-lines-at.result _ c.lines-test.true
    c.index-lines-at.is c.lines.invariant c.in_ok-relaxed_copy.ensures c.in_ok-push.ensures.items

pub returns : goal.returns
returns c =
    subst (λ ls. AreRelaxedLines c.args.level ls c.lines.relaxed.items)
    (take_all c.lines.at c.args.lines.now c.lines-test.false) c.lines.invariant
