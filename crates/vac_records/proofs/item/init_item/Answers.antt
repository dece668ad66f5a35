use Rattle.std.proofs.Common.{arith}
use Rattle.vac_records.proofs.Making.{item_made}
use Rattle.vac_records.proofs.item.init_item.Goals as goal

pub returns-clause-answer : goal.returns-clause-answer
returns-clause-answer g c =
    item_made _ _ _ _ _ _ _ _ _ _ _ _ _ _ _ (omega (arith, c.word.ensures)) c.word-2.ensures c.word-3.ensures
    c.word-4.ensures c.word-5.ensures
    c.in_ok-store.ensures.answer c.in_ok-store-2.ensures.answer c.in_ok-store-3.ensures.answer
    c.in_ok-store-4.ensures.answer c.in_ok-store-5.ensures.answer
