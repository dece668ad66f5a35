use Rattle.std.proofs.Common.{◌∙◌, sym, ap, subst}
use Rattle.stm_replay.specs.Follows.{IsOrderOfCore}
use Rattle.stm_replay.specs.Running.{Running}
use Rattle.stm_replay.proofs.Following.{reached_order}
use Rattle.stm_replay.proofs.replay.Core.order.Goals as goal

pub returns-clause-history : goal.returns-clause-history
returns-clause-history g c =
    let s : Running = c.args.self.now in
    λ r. subst (λ entries. IsOrderOfCore r.core entries s.order.points)
    (sym (c.entries.ensures ∙ ap (λ (x : Running). x.order.entries) c.self.view_is)) (reached_order s r)
