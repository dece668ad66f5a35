use Rattle.std.proofs.Common.{arith, refl}
use Rattle.vac_model.specs.Step.{deleted}
use Rattle.test_stm.proofs.Recorded.{item_made, item_changed, can_drop}
use Rattle.test_stm.proofs.records.make_item.Goals as goal

pub sub_total-requires-clause-free : goal.sub_total-requires-clause-free
sub_total-requires-clause-free g c =
    can_drop _ _ _ _ _ _ (item_made _ _ _ _ _ _ c.requires.node c.in_ok-init_item.ensures.answer) 3 (omega arith)
    (omega arith)

pub returns-clause-item : goal.returns-clause-item
returns-clause-item g c =
    item_changed _ _ _ _ _ _ _ (item_made _ _ _ _ _ _ c.requires.node c.in_ok-init_item.ensures.answer)
    (λ item. deleted item 3) c.in_ok-sub_total.ensures.answer 0 97 97 refl
