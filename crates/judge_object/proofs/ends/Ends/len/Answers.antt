use Rattle.std.proofs.Common.{ap, sym, ◌∙◌}
use Rattle.std.specs.Cmp.{nat_cmp_total}
use Rattle.std.specs.FinMap as map
use Rattle.judge_object.proofs.Trees.{len-tree}
use Rattle.judge_object.proofs.ends.Ends.len.Goals as goal

pub returns : goal.returns
returns c = c.len.ensures.len ∙ sym (len-tree nat_cmp_total c.self.inside.entries c.len.ensures.ordered) ∙
    ap map.len c.self.view_is
