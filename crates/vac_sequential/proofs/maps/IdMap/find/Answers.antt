use Rattle.std.proofs.Common.{sym, ap, ◌∙◌}
use Rattle.std.specs.Ordering.{nat_cmp}
use Rattle.std.specs.FinMap as fin
use Rattle.vac_sequential.specs.Tries.{map_at}
use Rattle.vac_sequential.proofs.maps.IdMap.find.Goals as goal

pub returns-in-None : goal.returns-in-None
returns-in-None g c =
    sym (fin.get-empty nat_cmp c.args.id) ∙ ap (λ l. fin.get (map_at l) c.args.id) (sym c.in-None.is) ∙
    ap (λ m. fin.get m c.args.id) c.self.view_is
