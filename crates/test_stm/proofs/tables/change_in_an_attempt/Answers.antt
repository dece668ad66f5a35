use Rattle.test_stm.specs.Laws.{IsTableOfTen}
use Rattle.test_stm.proofs.Begun.{held_begun}
use Rattle.test_stm.proofs.Tabled.{table_held}
use Rattle.test_stm.proofs.tables.change_in_an_attempt.Goals as goal

pub change-requires : goal.change-requires
change-requires c = record {
  table = table_held _ (held_begun (λ m n. IsTableOfTen 0 m n) 96 _ _ _ _ _ c.begin-attempt.ensures.empty.2
      c.begin-attempt.ensures.region c.requires.size c.begin-attempt.ensures.empty.1);
}
