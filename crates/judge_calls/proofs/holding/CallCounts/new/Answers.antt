use Rattle.std.proofs.Common.{refl, sym, ap, subst, ◌∙◌, []}
use Rattle.std.specs.Ordering.{nat_cmp}
use Rattle.std.specs.FinMap.{get, get-empty}
use Rattle.judge_calls.specs.Holding.{IsKept}
use Rattle.judge_calls.proofs.holding.CallCounts.new.Goals as goal

pub returns : goal.returns
returns c = record {
  clients = λ k. subst (λ o. IsKept o k []) (sym (ap (λ m. get m k) c.new.ensures ∙ get-empty nat_cmp k)) (refl, refl);
  number = refl;
}
