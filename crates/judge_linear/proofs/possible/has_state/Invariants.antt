use Rattle.std.proofs.Common.{◌≡◌, ◌<◌, ℕ, get_or}
use Rattle.vac_model.specs.State.{State}
use Rattle.judge_linear.proofs.possible.has_state.Given as goal

abbrev pub invariant-states : goal.invariant-states
invariant-states l = (i : ℕ) (d : State) → i < l.number → get_or l.states i d ≡ l.state → ⊥
