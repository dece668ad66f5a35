use Rattle.std.proofs.Common.{ℕ, Option, List, map, sum_by, ap, sym, ◌∙◌}
use Rattle.std.specs.Ordering.{nat_cmp}
use Rattle.std.specs.FinMap as fin
use Rattle.vac_sequential.specs.Tries.{Link, map_at}
use Rattle.vac_model.proofs.Views.{entries-empty}
use Rattle.vac_sequential.proofs.tries.total.Goals as goal

pub returns-in-None : goal.returns-in-None
returns-in-None g c =
    ap (λ (es : List (ℕ × g.row.V.Denot)). sum_by g.A.Amount.amount (map (λ e. e.1) es)) (sym (entries-empty nat_cmp))
    ∙ ap (λ (l : Option (Link g.row.V.Denot)). sum_by g.A.Amount.amount (fin.values (map_at l))) (sym c.in-None.is)
