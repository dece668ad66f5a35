use Rattle.std.proofs.Common.{sym, ap, ◌∙◌, ◌≡◌, length, rules}
use Rattle.judge_opacity.specs.Covered.{uncovered}
use Rattle.judge_opacity.proofs.Covering.{uncover_last, nothing_covered}
use Rattle.judge_opacity.proofs.memory.Memory.undo.Goals as goal

pub loop-covered-preserved : goal.loop-covered-preserved
loop-covered-preserved c =
    ap (uncovered c.pop.new.self.items) c.set_word.ensures ∙
    sym (uncover_last c.pop.new.self.items c.in-Some.covered c.loop-covered.self.words.items)
    ∙ ap (λ t. uncovered t c.loop-covered.self.words.items) (sym c.in-Some.ensures.items) ∙ c.loop-covered.invariant

pub returns : goal.returns
returns c =
    let none : length c.loop-covered.self.covered.items ≡ 0 = search rules in
    nothing_covered c.loop-covered.self.covered.items c.loop-covered.self.words.items none ∙ c.loop-covered.invariant
