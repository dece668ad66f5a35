use Rattle.std.proofs.Common.{arith}
use Rattle.vac_records.proofs.Counting.{room_at, units_made}
use Rattle.vac_records.proofs.item.make_of.Goals as goal

pub raise-requires : goal.raise-requires
raise-requires g c = record {
  inside = omega (arith, c.word.ensures, c.requires.node.inside);
  room = room_at _ _ _ _ c.word.ensures c.requires.units.used;
}

pub overflow_sub-free : goal.overflow_sub-free
overflow_sub-free g c = c.requires.units.enough

pub returns-clause-answer : goal.returns-clause-answer
returns-clause-answer g c = units_made _ _ _ _ _ _ _ _ c.word.ensures c.word-2.ensures c.in_ok-raise.ensures.answer
    c.in_ok-store.ensures.answer
