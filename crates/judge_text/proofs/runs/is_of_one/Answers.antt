use Rattle.std.proofs.Common.{◌≡◌, ◌<◌, Bool, true, false, not, length, sym, ap, ◌∙◌, refl, inl, inr, arith}
use Rattle.std.specs.Str.{bytes_eq}
use Rattle.std.proofs.lemmas.Bool.{cases_lt}
use Rattle.std.proofs.lemmas.Slice.Eq.{bytes_eq-Decides}
use Rattle.judge_search.proofs.Soonest.{same_default}
use Rattle.judge_text.specs.Classing.{object_of, for_object}
use Rattle.judge_text.specs.Runs.{name_of, name_at}
use Rattle.judge_text.proofs.runs.is_of_one.Goals as goal

not_false : (b : Bool) → not b ≡ false → b ≡ true
not_false true e = refl
not_false false e = cc

pub lines-init : goal.lines-init
lines-init g c = λ j d m k. absurd (omega arith)

false_true : false ≡ true → ⊥
false_true e = cc

pub returns-then-ne-clause-many : goal.returns-then-ne-clause-many
returns-then-ne-clause-many g c = λ is one.
    let name = (for_object (object_of c.args.names.now) (g.M.Named.name)) in
    let lines = c.args.lines.now in
    let p = c.lines.place in
    let x = c.index-lines-place.result in
    let y = c.index-lines-0.result in
    let within : p < length lines = c.lines-test.true in
    let same : c.name.result.now ≡ c.name-in-lines.result.now =
    c.name.ensures ∙ one p x within ∙ ap (name_of name) (same_default lines 0 x y (omega arith))
    ∙ sym c.name-in-lines.ensures in
    false_true (sym (ap not ((bytes_eq-Decides c.name.result.now c.name-in-lines.result.now).1 same))
    ∙ sym c.ne.ensures ∙ c.if-ne.true)

pub lines-preserved : goal.lines-preserved
lines-preserved g c = λ j d low high.
    let name = (for_object (object_of c.args.names.now) (g.M.Named.name)) in
    let lines = c.args.lines.now in
    let p = c.lines.place in
    let x = c.index-lines-place.result in
    let y = c.index-lines-0.result in
    let within : p < length lines = c.lines-test.true in
    let same : name_at name lines p x ≡ name_at name lines 0 y =
    sym c.name.ensures
    ∙ (bytes_eq-Decides c.name.result.now c.name-in-lines.result.now).0
    (not_false (bytes_eq c.name.result.now c.name-in-lines.result.now) (sym c.ne.ensures ∙ c.if-ne.false))
    ∙ c.name-in-lines.ensures in
    elim (cases_lt j p) [
      | inl l ↦ c.lines.invariant j d low l
      | inr l ↦
          let here : j ≡ p = omega arith in
          ap (λ i. name_at name lines i d) here
          ∙ ap (name_of name) (same_default lines p d x within)
          ∙ same
          ∙ ap (name_of name) (same_default lines 0 y d (omega arith))
    ]

pub returns-clause-one : goal.returns-clause-one
returns-clause-one g c = λ is j d w.
    let lines = c.args.lines.now in
    let end = c.lines-test.false in
    elim (cases_lt 0 j) [
      | inl l ↦ c.lines.invariant j d l (omega arith)
      | inr l ↦ ap (λ i. name_at (for_object (object_of c.args.names.now) (g.M.Named.name)) lines i d)
          (let e : j ≡ 0 = omega arith in e)
    ]
