use Rattle.std.proofs.Common.{arith}
use Rattle.vac_records.proofs.Counting.{room_at, room_later, more_units}
use Rattle.vac_records.proofs.item.add_total.Goals as goal

pub raise-requires : goal.raise-requires
raise-requires g c = record {
  inside = omega (arith, c.word.ensures, c.requires.node.inside);
  room = room_at _ _ _ _ c.word.ensures (record { fits = λ image i. c.requires.room.free image i });
}

pub raise-requires-2 : goal.raise-requires-2
raise-requires-2 g c = record {
  inside = omega (arith, c.word-2.ensures, c.requires.node.inside, c.in_ok-raise.ensures.answer.kept.size);
  room = room_later _ _ _ _ _ _ _ _ c.in_ok-raise.ensures.answer c.word.ensures c.word-2.ensures (omega arith)
      (record { fits = λ image i. c.requires.room.total image i });
}

pub returns-clause-answer : goal.returns-clause-answer
returns-clause-answer g c = more_units _ _ _ _ _ _ _ c.word.ensures c.word-2.ensures c.in_ok-raise.ensures.answer
    c.in_ok-raise-2.ensures.answer
