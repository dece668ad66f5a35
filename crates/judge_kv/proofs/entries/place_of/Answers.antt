use Rattle.std.proofs.Common.{ap, sym, ◌∙◌}
use Rattle.std.specs.Str.{bytes_eq}
use Rattle.judge_kv.proofs.Places.{held_here, held_next, held_nowhere}
use Rattle.judge_kv.proofs.entries.place_of.Goals as goal

pub returns-then-eq : goal.returns-then-eq
returns-then-eq c =
    held_here c.args.key.now c.args.entries.now c.entries.place c.index-entries-place.result c.entries-test.true
    c.index-entries-place.is
    (ap (λ k. bytes_eq k c.args.key.now) (sym c.key.ensures) ∙ sym c.eq.ensures ∙ c.if-eq.true) c.entries.invariant

pub entries-preserved : goal.entries-preserved
entries-preserved c =
    held_next c.args.key.now c.args.entries.now c.entries.place c.index-entries-place.result c.entries-test.true
    c.index-entries-place.is
    (ap (λ k. bytes_eq k c.args.key.now) (sym c.key.ensures) ∙ sym c.eq.ensures ∙ c.if-eq.false) c.entries.invariant

pub returns : goal.returns
returns c = held_nowhere c.args.key.now c.args.entries.now c.entries.place c.entries-test.false c.entries.invariant
