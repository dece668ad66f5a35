use Rattle.std.proofs.Common.{◌≡◌, ℕ, ap, sym, ◌∙◌}
use Rattle.std.specs.Ordering.{nat_cmp}
use Rattle.std.specs.FinMap as fin
use Rattle.std.specs.FinMap.{FinMap}
use Rattle.vac_sequential.specs.Tries.{map_in}
use Rattle.vac_sequential.proofs.Woven.{four_empty}
use Rattle.vac_sequential.proofs.tries.share.Goals as goal

pub returns-in_default : goal.returns-in_default
returns-in_default g c =
    let first = λ (x : FinMap nat_cmp g.row.V.Denot × ℕ). x.0 in
    let none : map_in c.args.link.now ≡ fin.empty = ap first (sym c.deref.ensures) ∙ c.in_default.ensures in
    four_empty (map_in c.in_ok-clone.field-0) (map_in c.in_ok-clone-2.field-0) (map_in c.in_ok-clone-3.field-0)
    (map_in c.in_ok-clone-4.field-0)
    (ap first c.in_ok-clone.ensures.cases ∙ none) (ap first c.in_ok-clone-2.ensures.cases ∙ none)
    (ap first c.in_ok-clone-3.ensures.cases ∙ none) (ap first c.in_ok-clone-4.ensures.cases ∙ none)
    ∙ sym none
