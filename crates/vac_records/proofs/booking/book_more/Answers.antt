use Rattle.std.proofs.Common.{arith}
use Rattle.vac_records.proofs.Counting.{room_at, room_later}
use Rattle.vac_records.proofs.booking.book_more.Goals as goal

pub raise-requires : goal.raise-requires
raise-requires g c = record {
  inside = omega (arith, c.word.ensures, c.requires.node.inside);
  room = room_at _ _ _ _ c.word.ensures c.requires.room.sum;
}

pub raise-requires-2 : goal.raise-requires-2
raise-requires-2 g c = record {
  inside = omega (arith, c.word-2.ensures, c.requires.node.inside, c.in_ok-raise.ensures.answer.kept.size);
  room = room_later _ _ _ _ _ _ _ _ c.in_ok-raise.ensures.answer c.word.ensures c.word-2.ensures
      (omega arith) c.requires.room.units;
}
