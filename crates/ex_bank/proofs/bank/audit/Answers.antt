use Rattle.ex_bank.proofs.Steps.{opening_sum}
use Rattle.ex_bank.proofs.bank.audit.Goals as goal

pub returns-clause-total : goal.returns-clause-total
returns-clause-total c =
    let h = c.ask.ensures.call in
    rw h.result_is (opening_sum c.args.caller.now.shared c.args.caller.now.user.value c.ask.new.self.user.value
    h.placed h.call.order)
