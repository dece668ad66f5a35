use Rattle.std.proofs.Common.{◌≡◌, get_or, ap, ◌∙◌, inl, inr, arith}
use Rattle.std.proofs.lemmas.Bool.{cases_lt}
use Rattle.judge_object.specs.declared.span.TheConstants.{NEVER}
use Rattle.judge_search.specs.Calls.{has_ended}
use Rattle.judge_search.proofs.Sorted.{early, late}
use Rattle.judge_search.proofs.Soonest.{same_default}
use Rattle.judge_search.proofs.Lookback.{parted_at, parted_all}
use Rattle.judge_search.proofs.links.completed_of.Goals as goal

pub lines-init : goal.lines-init
lines-init g c = λ j d l. absurd (omega arith)

pub returns-then-lines-place-ge-NEVER : goal.returns-then-lines-place-ge-NEVER
returns-then-lines-place-ge-NEVER g c =
    parted_at c.args.lines.now c.lines.place c.index-lines-place.result c.requires c.lines-test.true
    c.index-lines-place.is
    (ap has_ended c.index-lines-place.is
    ∙ early (get_or c.args.lines.now c.lines.place c.index-lines-place.result).end NEVER c.if-lines-place-ge-NEVER.true)
    c.lines.invariant

pub lines-preserved : goal.lines-preserved
lines-preserved g c = λ j d l.
    let lines = c.args.lines.now in
    let p = c.lines.place in
    let line = c.index-lines-place.result in
    elim (cases_lt j p) [
      | inl k ↦ c.lines.invariant j d k
      | inr k ↦
          let e : j ≡ p = omega arith in
          ap (λ i. has_ended (get_or lines i d)) e
          ∙ ap has_ended (same_default lines p d line c.lines-test.true)
          ∙ late (get_or lines p line).end NEVER c.if-lines-place-ge-NEVER.false
    ]

pub returns : goal.returns
returns g c =
    parted_all c.args.lines.now (λ j d l. c.lines.invariant j d (let t = c.lines-test.false in omega arith))
