use Rattle.std.proofs.Common.{ap, sym, ◌∙◌}
use Rattle.std.specs.Cmp.{nat_cmp_total}
use Rattle.std.specs.FinMap as map
use Rattle.std.specs.FinMap.{nat_cmp-IsAntisymmetric}
use Rattle.vac_model.proofs.Views.{get-tree, remove-tree}
use Rattle.judge_calls.proofs.by_client.ByClient.remove.Goals as goal

pub returns-clause-removed : goal.returns-clause-removed
returns-clause-removed g c =
    remove-tree nat_cmp_total nat_cmp-IsAntisymmetric c.self.inside.entries c.remove.new.self c.args.client
    c.remove.ensures.updates
    ∙ ap (λ m. map.remove m c.args.client) c.self.view_is

pub returns-clause-value : goal.returns-clause-value
returns-clause-value g c =
    c.remove.ensures.value ∙ sym (get-tree nat_cmp_total c.self.inside.entries c.args.client) ∙
    ap (λ m. map.get m c.args.client) c.self.view_is
