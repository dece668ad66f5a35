use Rattle.std.proofs.Common.{◌<◌, ◌-◌, ◌&&◌, List, ap, ◌∙◌, arith}
use Rattle.stm_core.specs.Client.{Client}
use Rattle.stm_core.specs.Event.{is_empty}
use Rattle.stm_core.specs.Core.{client_of, is_out, others_gathered}
use Rattle.stm_replay.specs.Running.{Running}
use Rattle.stm_replay.proofs.Making.{out_some}
use Rattle.stm_replay.proofs.Testing.{and_then, and_left}
use Rattle.stm_replay.proofs.state.State.is_alone.Goals as goal

pub overflow_sub-client : goal.overflow_sub-client
overflow_sub-client g c = let some : 0 < c.args.client = out_some c.args.self.now.core c.args.client
    (and_left (is_out c.args.self.now.core c.args.client)
    (is_empty (client_of c.args.self.now.core c.args.client).attempt.held) c.is_free_handed.result
    c.is_free_handed.ensures c.if-is_free_handed.true) in omega arith

pub returns-then-is_free_handed : goal.returns-then-is_free_handed
returns-then-is_free_handed g c = and_then (is_out c.args.self.now.core c.args.client
    && is_empty (client_of c.args.self.now.core c.args.client).attempt.held)
    (others_gathered c.args.self.now.core.clients (c.args.client - 1)) c.is_free_handed.result c.others_gathered.result
    c.is_free_handed.ensures c.if-is_free_handed.true (c.others_gathered.ensures
    ∙ ap (λ (l : List Client). others_gathered l (c.args.client - 1)) (c.deref.ensures.value
    ∙ ap (λ (x : Running). x.core.clients) c.self.view_is))
