use Rattle.vac_tasks.proofs.ItemGoes.{gone_none, used_in_hand, gone_done}
use Rattle.vac_tasks.proofs.items.remove_item.Goals as goal

pub returns-in_default-clause-answer : goal.returns-in_default-clause-answer
returns-in_default-clause-answer g c = gone_none _ _ _ _ _ c.root_of.ensures c.requires.item
    (rw c.in_default.is at c.in_ok-removed.ensures.answer)

pub give-requires : goal.give-requires
give-requires g c = record {
  used = used_in_hand _ _ _ _ _ _ c.root_of.ensures c.requires.state c.requires.item (rw
      c.in-Some.is at c.in_ok-removed.ensures.answer);
}

pub returns-clause-answer : goal.returns-clause-answer
returns-clause-answer g c = gone_done _ _ _ _ _ _ _ _ c.root_of.ensures c.in_ok-give.ensures.list c.requires.item
    (rw c.in-Some.is at c.in_ok-removed.ensures.answer) c.in_ok-give.ensures.answer
