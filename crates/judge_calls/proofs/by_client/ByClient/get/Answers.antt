use Rattle.std.proofs.Common.{ap, sym, ◌∙◌}
use Rattle.std.specs.Cmp.{nat_cmp_total}
use Rattle.std.specs.FinMap as map
use Rattle.vac_model.proofs.Views.{get-tree}
use Rattle.judge_calls.proofs.by_client.ByClient.get.Goals as goal

pub returns : goal.returns
returns g c = c.get.ensures.value ∙ sym (get-tree nat_cmp_total c.self.inside.entries c.args.client) ∙
    ap (λ m. map.get m c.args.client) c.self.view_is
