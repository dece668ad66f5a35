use Rattle.std.proofs.Common.{arith, refl}
use Rattle.vac_model.specs.Step.{taken, given_back}
use Rattle.test_stm.proofs.Recorded.{item_changed, changed_after, can_make, can_cancel}
use Rattle.test_stm.proofs.records.use_item.Goals as goal

pub make_of-requires-clause-units : goal.make_of-requires-clause-units
make_of-requires-clause-units g c =
    can_make _ _ _ _ _ _ c.requires.item _ 10 _ (omega arith) (omega arith) c.in_ok-free.ensures.answer
    (g.met.M.TxRead.seen c.free_at.new.memory)

pub cancel-requires-clause-units : goal.cancel-requires-clause-units
cancel-requires-clause-units g c =
    can_cancel _ _ _ _ _ _ (item_changed _ _ _ _ _ _ _ c.requires.item (λ item. taken item 10)
    (changed_after _ _ _ _ _ _ c.in_ok-free.ensures.answer c.in_ok-make_of.ensures.answer) 10 87 97 refl)
    4 (omega arith) (omega arith)

pub returns-clause-item : goal.returns-clause-item
returns-clause-item g c =
    item_changed _ _ _ _ _ _ _ (item_changed _ _ _ _ _ _ _ c.requires.item (λ item. taken item 10)
    (changed_after _ _ _ _ _ _ c.in_ok-free.ensures.answer c.in_ok-make_of.ensures.answer) 10 87 97 refl)
    (λ item. given_back item 4) c.in_ok-cancel.ensures.answer 6 91 97 refl
