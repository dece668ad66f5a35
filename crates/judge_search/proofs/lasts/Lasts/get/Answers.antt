use Rattle.std.proofs.Common.{ap, sym, ◌∙◌}
use Rattle.std.specs.Cmp.{nat_cmp_total}
use Rattle.std.specs.FinMap as map
use Rattle.judge_object.proofs.Trees.{get-tree}
use Rattle.judge_search.proofs.lasts.Lasts.get.Goals as goal

pub returns : goal.returns
returns c =
    c.copied.ensures ∙ c.get.ensures.value ∙ sym (get-tree nat_cmp_total c.self.inside.entries c.args.client) ∙
    ap (λ m. map.get m c.args.client) c.self.view_is
