use Rattle.std.proofs.Common.{sym, ap, ◌∙◌, arith}
use Rattle.judge_text.specs.Classes.{name_at}
use Rattle.judge_text.proofs.classes.Classes.root_of.Goals as goal

pub up-preserved : goal.up-preserved
up-preserved c =
    let s = c.args.self.now in
    let i = c.up.invariant in
    let w = i.0 in
    let less = c.up-test.true in (
      (omega arith),
      c.parent_of-above-in-up.ensures,
      (λ g k. i.2 g k ∙ k c.up.at w ∙ ap (λ p. g (name_at s p)) (sym i.1)),
    )

pub returns-clause-root : goal.returns-clause-root
returns-clause-root c =
    let s = c.args.self.now in
    let i = c.up.invariant in
    let b = c.requires.formed.below c.up.at i.0 in
    let is = i.1 in
    let more = c.up-test.false in
    omega arith
