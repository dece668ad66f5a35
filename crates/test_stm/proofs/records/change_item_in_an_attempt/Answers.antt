use Rattle.test_stm.specs.Records.{IsSized}
use Rattle.test_stm.proofs.Begun.{held_begun}
use Rattle.test_stm.proofs.Recorded.{node_held}
use Rattle.test_stm.proofs.records.change_item_in_an_attempt.Goals as goal

pub change_item-requires : goal.change_item-requires
change_item-requires c = record {
  node = node_held _ (held_begun (λ m n. IsSized m n) 96 _ _ _ _ _ c.begin-attempt.ensures.empty.2
      c.begin-attempt.ensures.region c.requires.size c.begin-attempt.ensures.empty.1);
}
