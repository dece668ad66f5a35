use Rattle.std.proofs.Common.{Some, ap, subst, ◌∙◌}
use Rattle.std.specs.BTreeMap as tree
use Rattle.std.specs.FinMap as map
use Rattle.vac_model.proofs.Views.{insert-tree}
use Rattle.vac_model.proofs.Places.{place_cmp_total, place_cmp-IsAntisymmetric, pair_cmp}
use Rattle.vac_sequential.proofs.maps.BookingMap.insert.Goals as goal

pub returns-clause-ok : goal.returns-clause-ok
returns-clause-ok c =
    insert-tree place_cmp_total place_cmp-IsAntisymmetric c.self.inside.entries c.insert.new.self (
      c.args.kind,
      c.args.id,
    ) c.args.booking
    (subst (λ R. tree.Updates R c.self.inside.entries c.insert.new.self (c.args.kind, c.args.id) (Some c.args.booking))
    pair_cmp c.in_ok-old.ensures.updates)
    ∙ ap (λ m. map.insert m (c.args.kind, c.args.id) c.args.booking) c.self.view_is
