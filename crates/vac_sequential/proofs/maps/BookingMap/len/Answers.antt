use Rattle.std.proofs.Common.{ap, sym, subst, ◌∙◌}
use Rattle.std.specs.BTreeMap as tree
use Rattle.std.specs.FinMap as map
use Rattle.vac_model.proofs.Views.{len-tree}
use Rattle.vac_model.proofs.Places.{place_cmp_total, pair_cmp}
use Rattle.vac_sequential.proofs.maps.BookingMap.len.Goals as goal

pub returns : goal.returns
returns c =
    c.len.ensures.len
    ∙ sym (len-tree place_cmp_total c.self.inside.entries (subst
    (λ R. tree.IsOrdered R c.self.inside.entries) pair_cmp c.len.ensures.ordered))
    ∙ ap map.len c.self.view_is
