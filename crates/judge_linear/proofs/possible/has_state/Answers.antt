use Rattle.std.proofs.Common.{◌≡◌, true, false, get_or, refl, sym, ap, ◌∙◌, arith, inl, inr}
use Rattle.std.proofs.lemmas.Bool.{cases_lt}
use Rattle.std.proofs.lemmas.List.{get_or_default}
use Rattle.judge_linear.proofs.possible.has_state.Goals as goal

true_false : true ≡ false → ⊥
true_false e = cc

false_true : false ≡ true → ⊥
false_true e = cc

pub states-init : goal.states-init
states-init c = λ i d l e. absurd (omega arith)

pub states-preserved : goal.states-preserved
states-preserved c = λ i d l e.
    let states = c.args.states.now in
    let known = c.index-states-number.result in
    elim (cases_lt i c.states.number) [
      | inl old ↦ c.states.invariant i d old e
      | inr new ↦
          let own : i ≡ c.states.number = omega arith in
          true_false (sym (c.equals.ensures.1
          (c.index-states-number.is ∙ get_or_default states c.states.number known d c.states-test.true
          ∙ ap (λ k. get_or states k d) (sym own) ∙ e)) ∙ c.if-equals.false)
    ]

pub returns-then-equals : goal.returns-then-equals
returns-then-equals c = (
  λ yes. (
    c.states.number,
    c.states-test.true,
    get_or_default c.args.states.now c.states.number c.args.state.now
        c.index-states-number.result c.states-test.true ∙ sym c.index-states-number.is
        ∙ c.equals.ensures.0 c.if-equals.true,
  ),
  λ there. refl,
)

pub returns : goal.returns
returns c = (
  λ e. absurd (false_true e),
  λ there. absurd (c.states.invariant there.0 c.args.state.now
      (let l = there.1 in let end = c.states-test.false in omega arith) there.2),
)
