use Rattle.std.proofs.Common.{sym, subst, rules}
use Rattle.std.proofs.lemmas.List.Sorted.{answers_always}
use Rattle.vac_audit.proofs.Finding.{IsFound, found_at}
use Rattle.vac_audit.proofs.bookings.find.Goals as goal

pub returns : goal.returns
returns c = record {
  found = subst (λ z. IsFound c.args.items.now c.args.key c.requires.order c.requires.key z) (sym c.ok.ensures.value)
      (found_at c.args.items.now c.args.key c.requires.order c.requires.key c.binary_search_by_key.result
      c.binary_search_by_key.ensures.bound
      (c.binary_search_by_key.ensures.position (λ item. item.key)
      (answers_always _ _ _ (λ f a r g called. search rules))));
}
