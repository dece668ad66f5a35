use Rattle.std.proofs.Common.{None, ap, subst, ◌∙◌}
use Rattle.std.specs.BTreeMap as tree
use Rattle.std.specs.FinMap as map
use Rattle.vac_model.proofs.Views.{remove-tree}
use Rattle.vac_model.proofs.Places.{place_cmp_total, place_cmp-IsAntisymmetric, pair_cmp}
use Rattle.vac_sequential.proofs.maps.BookingMap.remove.Goals as goal

pub returns : goal.returns
returns c =
    remove-tree place_cmp_total place_cmp-IsAntisymmetric c.self.inside.entries c.remove-old.new.self (
      c.args.kind,
      c.args.id,
    )
    (subst (λ R. tree.Updates R c.self.inside.entries c.remove-old.new.self (c.args.kind, c.args.id) None) pair_cmp
    c.remove-old.ensures.updates)
    ∙ ap (λ m. map.remove m (c.args.kind, c.args.id)) c.self.view_is
