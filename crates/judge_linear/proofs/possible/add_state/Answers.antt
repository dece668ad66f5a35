use Rattle.std.proofs.Common.{true, false, ◌≡◌, sym, ◌∙◌, subst}
use Rattle.std.specs.List.{Contains}
use Rattle.judge_linear.proofs.PossibleStates.{adds_there, adds_other}
use Rattle.judge_linear.proofs.possible.add_state.Goals as goal

true_false : true ≡ false → ⊥
true_false e = cc

pub returns-then-has_state : goal.returns-then-has_state
returns-then-has_state c =
    adds_there c.args.state c.args.states.now.items
    (subst (λ l. Contains l c.args.state) c.as_slice.ensures.value (c.has_state.ensures.0 c.if-has_state.true))

pub returns : goal.returns
returns c =
    adds_other c.args.state c.args.states.now.items c.push.new.self.items
    (λ there. true_false (sym (c.has_state.ensures.1 (subst (λ l. Contains l c.args.state)
    (sym c.as_slice.ensures.value)
    there)) ∙ c.if-has_state.false)) c.in_ok-push.ensures.items
