use Rattle.std.proofs.Common.{true, arith, refl, sym}
use Rattle.stm_object.specs.Steps.{load_step, store_step, two_steps, known_le, has_done}
use Rattle.ex_bank.specs.declared.entry.Entry.TheVariants.{Transfer}
use Rattle.ex_bank.specs.declared.law.TheConstants.{ACCOUNTS}
use Rattle.ex_bank.specs.Accounts.{IsBank, IsEntry, Finds, after, code}
use Rattle.ex_bank.specs.Keeping.{bank_after}
use Rattle.ex_bank.proofs.Steps.{room}
use Rattle.ex_bank.proofs.bodies.MoveUpdateBankObject.run.Goals as goal

pub overflow_add-there : goal.overflow_add-there
overflow_add-there g c =
    let range = c.args.self.now.range in
    let steps = two_steps (load_step c.in_ok-left.ensures.answer range.0)
    (two_steps (store_step c.in_ok-store.ensures.answer) (load_step c.in_ok-there.ensures.answer range.1)) in
    let small = known_le _ _ c.requires.value steps (g.met.M.TxRead.seen c.load-2.new.memory)
    (λ xs b p. room xs _ _ _ _ _ b range.0 range.1 (omega (arith, c.if-left-self.false)) p.0 p.1.1) in
    omega (arith, small)

pub returns-clause-answer : goal.returns-clause-answer
returns-clause-answer g c =
    let b = c.args.self.now in
    has_done ACCOUNTS IsBank IsEntry Finds after code bank_after (Transfer b.from b.to b.amount true) b.range
    (λ xs b. b.size)
    (two_steps (load_step c.in_ok-left.ensures.answer b.range.0)
    (two_steps (store_step c.in_ok-store.ensures.answer)
    (two_steps (load_step c.in_ok-there.ensures.answer b.range.1) (store_step c.in_ok-store-2.ensures.answer))))
    (λ xs f p. (
      (omega (arith, f.size, b.range.0), omega (arith, f.size, b.range.1), omega (arith, p.0, c.if-left-self.false)),
      rw (sym p.1.1.0, sym p.0) refl,
    ))
