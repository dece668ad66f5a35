use Rattle.std.proofs.Common.{arith}
use Rattle.test_stm.proofs.Recorded.{item_added, item_priced, has_room}
use Rattle.test_stm.proofs.records.extend_item.Goals as goal

pub add_total-requires-clause-room : goal.add_total-requires-clause-room
add_total-requires-clause-room g c = has_room _ _ _ _ _ _ c.requires.item 5 (omega arith) (omega arith)

pub returns-clause-item : goal.returns-clause-item
returns-clause-item g c =
    item_priced _ _ _ _ _ _ _ (item_added _ _ _ _ _ _ _ c.requires.item 5 c.in_ok-add_total.ensures.answer) 80
    c.in_ok-set_price.ensures.answer
