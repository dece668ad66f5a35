use Rattle.std.proofs.Common.{ℕ, List, map, sum_by, sym, ap}
use Rattle.std.specs.Ordering.{nat_cmp}
use Rattle.std.specs.FinMap as fin
use Rattle.vac_model.proofs.Views.{entries-empty}
use Rattle.vac_sequential.proofs.maps.IdMap.new.Goals as goal

pub invariant_of-result : goal.invariant_of-result
invariant_of-result g c = (
  sym (fin.len-empty nat_cmp g.row.V.Denot),
  ap (λ (es : List (ℕ × g.row.V.Denot)). sum_by g.V.Entry.weight (map (λ e. e.1) es)) (sym (entries-empty nat_cmp)),
)
