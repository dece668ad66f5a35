use Rattle.std.proofs.Common.{sym, ap, ◌∙◌, is_none}
use Rattle.judge_opacity.specs.Parts.{attempt_of}
use Rattle.judge_opacity.specs.Words.{wrong_read}
use Rattle.judge_opacity.specs.Covered.{image_of}
use Rattle.judge_opacity.proofs.Searching.{misplaced_fails, placed_breach, none_test}
use Rattle.judge_opacity.proofs.judge.Judge.fits.Goals as goal

pub returns-then-is_some-clause-fits : goal.returns-then-is_some-clause-fits
returns-then-is_some-clause-fits c = λ words earlier f.
    misplaced_fails earlier (attempt_of c.args.head.now c.args.accesses.now) c.find.result (c.find.ensures _ f.spans)
    (sym c.is_some.ensures ∙ c.if-is_some.true)

pub returns-clause-fits : goal.returns-clause-fits
returns-clause-fits c = λ words earlier f.
    none_test c.in_ok-wrong.wrong c.is_none.result c.is_none.ensures
    ∙ ap is_none (sym (placed_breach words c.args.self.now earlier
    (attempt_of c.args.head.now c.args.accesses.now) c.find.result c.in_ok-wrong.wrong f
    (c.find.ensures _ f.spans) (sym c.is_some.ensures ∙ c.if-is_some.false)
    (ap (λ w. wrong_read (image_of w) c.args.accesses.now) (sym c.keep.ensures.words) ∙ c.in_ok-wrong.ensures.found)))
