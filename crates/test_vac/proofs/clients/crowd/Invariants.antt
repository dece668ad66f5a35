use Rattle.std.proofs.Common.{◌≡◌, All}
use Rattle.test_vac.proofs.clients.crowd.Given as goal

abbrev pub invariant-loop-id : goal.invariant-loop-id
invariant-loop-id g l = (l.caller.shared ≡ l.initial.caller.shared)
    × All (λ other. other.shared ≡ l.initial.caller.shared) l.others.items
