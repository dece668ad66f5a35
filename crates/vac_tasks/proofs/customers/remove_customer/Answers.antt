use Rattle.vac_tasks.proofs.Parting.{none_removed, used_in_hand, removed_gone}
use Rattle.vac_tasks.proofs.customers.remove_customer.Goals as goal

pub returns-in-None-clause-answer : goal.returns-in-None-clause-answer
returns-in-None-clause-answer g c = none_removed _ _ _ c.requires.bare
    (rw c.in-None.is at c.in_ok-removed.ensures.answer)

pub give-requires : goal.give-requires
give-requires g c = record {
  used = used_in_hand _ _ _ _ (rw c.in-Some.is at
      c.in_ok-removed.ensures.answer) c.requires.state c.requires.bare;
}

pub returns-in_ok-give-in-Some-clause-answer : goal.returns-in_ok-give-in-Some-clause-answer
returns-in_ok-give-in-Some-clause-answer g c =
    removed_gone _ _ _ _ (rw c.in-Some.is at c.in_ok-removed.ensures.answer) _ _ c.in_ok-give-in-Some.ensures.list
    c.in_ok-give-in-Some.ensures.answer
