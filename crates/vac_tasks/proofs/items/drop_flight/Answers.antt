use Rattle.vac_tasks.proofs.Held.{read_both, held_on, item_at_on}
use Rattle.vac_tasks.proofs.ItemReads.{read_by}
use Rattle.vac_tasks.proofs.ItemGoes.{item_there}
use Rattle.vac_tasks.proofs.ItemLess.{drop_none, drop_used, drop_done}
use Rattle.vac_tasks.proofs.items.drop_flight.Goals as goal

pub returns-in_default-clause-answer : goal.returns-in_default-clause-answer
returns-in_default-clause-answer g c = drop_none _ _ _ c.in_ok-found.ensures.reads
    (rw c.in_default.is at c.in_ok-found.ensures.answer)

pub returns-then-used-gt0-clause-answer : goal.returns-then-used-gt0-clause-answer
returns-then-used-gt0-clause-answer g c = drop_used _ _ _ _ _ _ c.in_ok-found.ensures.reads
    (rw c.in-Some.is at c.in_ok-found.ensures.answer) c.in_ok-used.ensures.answer c.if-used-gt0.true

pub remove_item-requires : goal.remove_item-requires
remove_item-requires g c = record {
  state = held_on _ _ (read_both _ _ _ c.in_ok-found.ensures.reads
      (read_by _ _ _ _ c.in_ok-used.ensures.answer)) c.requires.state;
  item = item_there _ _ _ _ (item_at_on _ _ _ _ _
      (read_by _ _ _ _ c.in_ok-used.ensures.answer) (rw c.in-Some.is at c.in_ok-found.ensures.answer));
}

pub returns-clause-answer : goal.returns-clause-answer
returns-clause-answer g c = drop_done _ _ _ _ _ _ _ c.in_ok-found.ensures.reads
    (rw c.in-Some.is at c.in_ok-found.ensures.answer) c.in_ok-used.ensures.answer c.if-used-gt0.false
    c.in_ok-remove_item.ensures.answer
