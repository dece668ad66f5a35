use Rattle.std.proofs.Common.{ap, sym, ◌∙◌, refl, length}
use Rattle.std.specs.Ordering.{is_lt, nat_cmp}
use Rattle.std.specs.Cmp.Lexicographic.{slice_cmp}
use Rattle.judge_kv.proofs.Places.{among_here, among_next, among_last}
use Rattle.judge_kv.proofs.entries.place_among.Goals as goal

pub returns-then-not-is_before-clause-among : goal.returns-then-not-is_before-clause-among
returns-then-not-is_before-clause-among c = λ value.
    among_here c.args.key.now value c.args.entries.now c.entries.place c.index-entries-place.result
    c.entries-test.true c.index-entries-place.is
    (ap (λ k. is_lt (slice_cmp nat_cmp k c.args.key.now)) (sym c.key.ensures) ∙ sym c.is_before.ensures
    ∙ c.if-not-is_before.true) (c.entries.invariant value)

pub entries-preserved : goal.entries-preserved
entries-preserved c = λ value.
    among_next c.args.key.now value c.args.entries.now c.entries.place c.index-entries-place.result
    c.entries-test.true c.index-entries-place.is
    (ap (λ k. is_lt (slice_cmp nat_cmp k c.args.key.now)) (sym c.key.ensures) ∙ sym c.is_before.ensures
    ∙ c.if-not-is_before.false) (c.entries.invariant value)

pub returns-clause-among : goal.returns-clause-among
returns-clause-among c = λ value.
    among_last c.args.key.now value c.args.entries.now c.entries.place (length c.args.entries.now) refl
    c.entries-test.false (c.entries.invariant value)
