use Rattle.stm_attempt.proofs.Entering.{nothing_placed}
use Rattle.stm_attempt.proofs.Marking.{covers_nothing}
use Rattle.stm_attempt.proofs.attempt.Attempt.begin.Goals as goal

pub invariant_of-result-clause-placed : goal.invariant_of-result-clause-placed
invariant_of-result-clause-placed g c = λ _. nothing_placed _ _ c.clear.ensures.empty.1

pub invariant_of-result-clause-covered : goal.invariant_of-result-clause-covered
invariant_of-result-clause-covered g c = λ _. covers_nothing _ _ c.clear.ensures.empty.1
