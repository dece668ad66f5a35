use Rattle.vac_tasks.proofs.Held.{held_on}
use Rattle.vac_tasks.proofs.ItemGoes.{item_there}
use Rattle.vac_tasks.proofs.ItemLess.{delete_none, delete_few, delete_less, delete_last, has_free, total_some}
use Rattle.vac_tasks.proofs.ItemLess.{read_twice, at_after}
use Rattle.vac_tasks.proofs.items.delete.Goals as goal

pub returns-in_default-clause-answer : goal.returns-in_default-clause-answer
returns-in_default-clause-answer g c = delete_none _ _ _ _ _ c.in_ok-found.ensures.reads
    (rw c.in_default.is at c.in_ok-found.ensures.answer)

pub returns-then-free-num-clause-answer : goal.returns-then-free-num-clause-answer
returns-then-free-num-clause-answer g c = delete_few _ _ _ _ _ _ _ _ c.in_ok-found.ensures.reads
    (rw c.in-Some.is at c.in_ok-found.ensures.answer) c.in_ok-free.ensures.answer c.if-free-num.true

pub take_units-requires-clause-free : goal.take_units-requires-clause-free
take_units-requires-clause-free g c = has_free _ _ _ _ _ _ _ c.in_ok-free.ensures.answer c.in_ok-total.ensures.answer
    c.if-free-num.false c.if-total-num.true

pub returns-then-total-num-clause-answer : goal.returns-then-total-num-clause-answer
returns-then-total-num-clause-answer g c =
    delete_less _ _ _ _ _ _ _ _ _ _ _ c.requires.range c.in_ok-found.ensures.reads
    (rw c.in-Some.is at c.in_ok-found.ensures.answer) c.in_ok-free.ensures.answer c.in_ok-total.ensures.answer
    c.if-free-num.false c.if-total-num.true
    c.in_ok-take_units.ensures.answer c.in_ok-take_units.ensures.idle

pub remove_item-requires : goal.remove_item-requires
remove_item-requires g c = record {
  state = held_on _ _ (read_twice _ _ _ _ _ _ _ _ c.in_ok-found.ensures.reads
      c.in_ok-free.ensures.answer c.in_ok-total.ensures.answer) c.requires.state;
  item = item_there _ _ _ _ (at_after _ _ _ _ _ _ _ _ _ _
      (rw c.in-Some.is at c.in_ok-found.ensures.answer) c.in_ok-free.ensures.answer c.in_ok-total.ensures.answer);
}

pub returns-clause-answer : goal.returns-clause-answer
returns-clause-answer g c =
    delete_last _ _ _ _ _ _ _ _ _ _ _ c.requires.range c.in_ok-found.ensures.reads
    (rw c.in-Some.is at c.in_ok-found.ensures.answer) c.in_ok-free.ensures.answer c.in_ok-total.ensures.answer
    c.if-free-num.false c.if-total-num.false
    (total_some _ _ _ _ _ _ _ _ _ (held_on _ _ (read_twice _ _ _ _ _ _ _ _ c.in_ok-found.ensures.reads
    c.in_ok-free.ensures.answer c.in_ok-total.ensures.answer) c.requires.state)
    (rw c.in-Some.is at c.in_ok-found.ensures.answer) c.in_ok-free.ensures.answer c.in_ok-total.ensures.answer
    (g.met.M.TxRead.seen c.total_at.new.memory))
    c.in_ok-remove_item.ensures.answer
