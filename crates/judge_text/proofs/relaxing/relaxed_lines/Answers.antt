use Rattle.std.proofs.Common.{◌++◌, ◌∷◌, [], subst, sym}
use Rattle.judge_text.specs.Relaxing.{AreRelaxed}
use Rattle.judge_text.proofs.Grouping.{one_on, all_over, nothing_left}
use Rattle.judge_text.proofs.Relaxed.{relaxed_append}
use Rattle.judge_text.proofs.relaxing.relaxed_lines.Goals as goal

pub loop-line-preserved : goal.loop-line-preserved
loop-line-preserved g c =
    let i = c.loop-line.invariant in
    record {
      all = one_on _ _ _ _ _ i.all c.in-Some.ensures.steps.0;
      are = subst (AreRelaxed c.args.level (c.loop-line.yielded ++ c.in-Some.line ∷ []))
          (sym c.in_ok-push.ensures.items)
          (relaxed_append c.args.level _ _ _ _ i.are c.in_ok-relaxed.ensures);
    }

pub returns : goal.returns
returns g c =
    let i = c.loop-line.invariant in
    let all = all_over c.args.lines.items c.loop-line.yielded _ i.all
    (nothing_left c.loop-line.line-iterator c.in-None.ensures.steps.0) in
    subst (λ ls. AreRelaxed c.args.level ls c.loop-line.found.items) all i.are
