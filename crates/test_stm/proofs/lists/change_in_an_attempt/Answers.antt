use Rattle.test_stock.specs.Stock.{IsStocked}
use Rattle.test_stm.proofs.Begun.{held_begun}
use Rattle.test_stm.proofs.Stocked.{stock_held}
use Rattle.test_stm.proofs.lists.change_in_an_attempt.Goals as goal

pub change-requires : goal.change-requires
change-requires c = record {
  stock = stock_held _ (held_begun IsStocked 976 _ _ _ _ _ c.begin-attempt.ensures.empty.2
      c.begin-attempt.ensures.region c.requires.size c.begin-attempt.ensures.empty.1);
}
