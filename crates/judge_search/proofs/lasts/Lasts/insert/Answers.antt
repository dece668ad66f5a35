use Rattle.std.proofs.Common.{ap, ◌∙◌}
use Rattle.std.specs.Cmp.{nat_cmp_total}
use Rattle.std.specs.FinMap as map
use Rattle.std.specs.FinMap.{nat_cmp-IsAntisymmetric}
use Rattle.judge_object.proofs.Trees.{insert-tree}
use Rattle.judge_search.proofs.lasts.Lasts.insert.Goals as goal

pub returns : goal.returns
returns c =
    insert-tree nat_cmp_total nat_cmp-IsAntisymmetric c.self.inside.entries c.insert.new.self c.args.client c.args.after
    c.in_ok-insert.ensures.updates
    ∙ ap (λ m. map.insert m c.args.client c.args.after) c.self.view_is
