use Rattle.std.proofs.Common.{arith}
use Rattle.vac_records.proofs.Counting.{enough_at, enough_later, fewer_units}
use Rattle.vac_records.proofs.item.sub_total.Goals as goal

pub lower-requires : goal.lower-requires
lower-requires g c = record {
  inside = omega (arith, c.word.ensures, c.requires.node.inside);
  enough = enough_at _ _ _ _ c.word.ensures c.requires.free.free;
}

pub lower-requires-2 : goal.lower-requires-2
lower-requires-2 g c = record {
  inside = omega (arith, c.word-2.ensures, c.requires.node.inside, c.in_ok-lower.ensures.answer.kept.size);
  enough = enough_later _ _ _ _ _ _ _ _ c.in_ok-lower.ensures.answer c.word.ensures c.word-2.ensures
      (omega arith) c.requires.free.total;
}

pub returns-clause-answer : goal.returns-clause-answer
returns-clause-answer g c = fewer_units _ _ _ _ _ _ _ c.word.ensures c.word-2.ensures c.in_ok-lower.ensures.answer
    c.in_ok-lower-2.ensures.answer
