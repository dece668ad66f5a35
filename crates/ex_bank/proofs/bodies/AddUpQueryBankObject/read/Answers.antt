use Rattle.std.proofs.Common.{arith, ◌∙◌}
use Rattle.ex_bank.proofs.Steps.{one_more, total_small, all_counted}
use Rattle.ex_bank.proofs.bodies.AddUpQueryBankObject.read.Goals as goal

pub overflow_add-total : goal.overflow_add-total
overflow_add-total g c =
    let small = total_small _ _ _ _ _ _ c.requires.value c.loop-account-test.true c.loop-account.invariant.counted
    c.in_ok-balance.ensures.answer (g.met.M.TxRead.seen c.load.new.memory) in
    omega (arith, small)

pub loop-account-preserved : goal.loop-account-preserved
loop-account-preserved g c = record {
  origin = c.load.ensures.origin ∙ c.loop-account.invariant.origin;
  counted = one_more _ _ _ _ _ _ c.loop-account-test.true c.loop-account.invariant.counted
      c.in_ok-balance.ensures.answer;
}

pub returns-clause-answer : goal.returns-clause-answer
returns-clause-answer g c = all_counted _ _ _ _ (omega (arith, c.loop-account-test.false))
    c.loop-account.invariant.counted
