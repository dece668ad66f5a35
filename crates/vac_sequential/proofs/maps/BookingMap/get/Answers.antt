use Rattle.std.proofs.Common.{ap, sym, ◌∙◌}
use Rattle.std.specs.BTreeMap as tree
use Rattle.std.specs.FinMap as map
use Rattle.vac_model.proofs.Views.{get-tree}
use Rattle.vac_model.proofs.Places.{place_cmp_total, pair_cmp}
use Rattle.vac_sequential.proofs.maps.BookingMap.get.Goals as goal

pub returns : goal.returns
returns c =
    c.copied.ensures ∙ c.get.ensures.value
    ∙ ap (λ R. tree.get R c.self.inside.entries (c.args.kind, c.args.id)) pair_cmp
    ∙ sym (get-tree place_cmp_total c.self.inside.entries (c.args.kind, c.args.id))
    ∙ ap (λ m. map.get m (c.args.kind, c.args.id)) c.self.view_is
