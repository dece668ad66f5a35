use Rattle.std.proofs.Common.{arith}
use Rattle.vac_records.proofs.Counting.{enough_at, room_later, units_cancelled}
use Rattle.vac_records.proofs.item.cancel.Goals as goal

pub lower-requires : goal.lower-requires
lower-requires g c = record {
  inside = omega (arith, c.word.ensures, c.requires.node.inside);
  enough = enough_at _ _ _ _ c.word.ensures c.requires.units.used;
}

pub raise-requires : goal.raise-requires
raise-requires g c = record {
  inside = omega (arith, c.word-2.ensures, c.requires.node.inside, c.in_ok-lower.ensures.answer.kept.size);
  room = room_later _ _ _ _ _ _ _ _ c.in_ok-lower.ensures.answer c.word.ensures c.word-2.ensures
      (omega arith) c.requires.units.free;
}

pub returns-clause-answer : goal.returns-clause-answer
returns-clause-answer g c = units_cancelled _ _ _ _ _ _ _ c.word.ensures c.word-2.ensures c.in_ok-lower.ensures.answer
    c.in_ok-raise.ensures.answer
