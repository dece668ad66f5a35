use Rattle.std.proofs.Common.{arith}
use Rattle.vac_tasks.proofs.Held.{held_on, item_found_at, customer_is_on}
use Rattle.vac_tasks.proofs.Leaving.{in_a_list, reads_of, item_not_missing, id_fits, its_spot, cancel_range}
use Rattle.vac_tasks.proofs.Leaving.{one_given}
use Rattle.vac_tasks.proofs.customers.cancel_first.Goals as goal

pub place_at-requires-clause-booking : goal.place_at-requires-clause-booking
place_at-requires-clause-booking g c = in_a_list _ _ _ _ c.requires.state c.requires.first

pub find_item-requires : goal.find_item-requires
find_item-requires g c =
    let r = c.in_ok-kind.ensures.answer in
    held_on _ _ (record { kept = r.kept; writes = r.writes }) c.requires.state

pub unreachable-requires : goal.unreachable-requires
unreachable-requires g c =
    item_not_missing _ _ _ _ _ _ _ c.in_ok-kind.ensures.answer c.in_ok-find_item.ensures.reads c.requires.state
    c.requires.first
    (rw c.in-None.is at c.in_ok-find_item.ensures.answer) (g.met.M.TxRead.seen c.find_item.new.memory)

pub cancel_at-requires-clause-ready : goal.cancel_at-requires-clause-ready
cancel_at-requires-clause-ready g c = record {
  state = held_on _ _ (reads_of _ _ _ _ _ c.in_ok-kind.ensures.answer c.in_ok-find_item.ensures.reads)
      c.requires.state;
  customer = customer_is_on _ _ _ _ (reads_of _ _ _ _ _ c.in_ok-kind.ensures.answer c.in_ok-find_item.ensures.reads)
      c.requires.customer;
  item = item_found_at _ _ _ _ (rw c.in-Some.is at c.in_ok-find_item.ensures.answer);
  range = cancel_range _ _ _ _ _ _ _ c.in_ok-kind.ensures.answer c.in_ok-find_item.ensures.reads c.requires.state
      c.requires.first _ c.requires.range (rw c.in-Some.is at c.in_ok-find_item.ensures.answer)
      (g.met.M.TxRead.seen c.find_item.new.memory);
}

pub cancel_at-requires-clause-spot : goal.cancel_at-requires-clause-spot
cancel_at-requires-clause-spot g c =
    rw (c.word.ensures, c.addr.ensures) (its_spot _ _ _ _ _ _ _ c.in_ok-kind.ensures.answer
    c.in_ok-find_item.ensures.reads c.requires.state c.requires.first c.requires.customer)

pub returns-clause-answer : goal.returns-clause-answer
returns-clause-answer g c =
    one_given _ _ _ _ _ _ _ c.in_ok-kind.ensures.answer c.in_ok-find_item.ensures.reads
    _ _ _ c.requires.customer.some (let low = c.requires.first.inside.0 in
    omega arith) (rw c.in-Some.is at c.in_ok-find_item.ensures.answer)
    (id_fits _ _ _ _ _ _ _ c.in_ok-kind.ensures.answer c.in_ok-find_item.ensures.reads c.requires.state c.requires.first
    _ (rw c.in-Some.is at c.in_ok-find_item.ensures.answer) (g.met.M.TxRead.seen c.find_item.new.memory))
    (cancel_range _ _ _ _ _ _ _ c.in_ok-kind.ensures.answer c.in_ok-find_item.ensures.reads c.requires.state
    c.requires.first _ c.requires.range (rw c.in-Some.is at c.in_ok-find_item.ensures.answer)
    (g.met.M.TxRead.seen c.find_item.new.memory))
    (rw (c.word.ensures, c.addr.ensures) at c.in_ok-cancel_at-in-Some.ensures.answer)
