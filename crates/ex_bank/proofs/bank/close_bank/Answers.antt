use Rattle.std.proofs.lemmas.Result.{IfOk-weaker}
use Rattle.ex_bank.proofs.Steps.{closes_balanced}
use Rattle.ex_bank.proofs.bank.close_bank.Goals as goal

pub returns-clause-closes : goal.returns-clause-closes
returns-clause-closes c = IfOk-weaker c.close.result _ _ (λ r k. closes_balanced _ _ _ _ k) c.close.ensures.closes
