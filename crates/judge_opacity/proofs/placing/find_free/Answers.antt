use Rattle.std.proofs.Common.{sym, ap, ◌∙◌}
use Rattle.judge_opacity.specs.Logs.{is_free}
use Rattle.judge_opacity.proofs.Searching.{same_follows, at_any}
use Rattle.judge_opacity.proofs.placing.find_free.Goals as goal

pub returns-then-branch-clause-found : goal.returns-then-branch-clause-found
returns-then-branch-clause-found c = λ words earlier f.
    let left = c.args.left.now in
    let now = same_follows words c.args.judge.now c.left.judge earlier c.left.invariant.same f in
    record {
      within = c.left-test.true;
      free = λ d.
          ap (is_free earlier left) (at_any left c.left.place c.index-left-place.result d c.left-test.true
          c.index-left-place.is)
          ∙ sym (c.in_ok-is_free.ensures.free words earlier now) ∙ c.if-branch.true;
    }
