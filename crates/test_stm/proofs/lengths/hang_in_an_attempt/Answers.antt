use Rattle.test_stm.specs.Laws.{HasNulls}
use Rattle.test_stm.proofs.Begun.{held_begun}
use Rattle.test_stm.proofs.lengths.hang_in_an_attempt.Goals as goal

pub take_and_hang-requires : goal.take_and_hang-requires
take_and_hang-requires c = record {
  nulls = held_begun HasNulls 96 _ _ _ _ _ c.begin-attempt.ensures.empty.2 c.begin-attempt.ensures.region
      c.requires.size c.begin-attempt.ensures.empty.1;
}
