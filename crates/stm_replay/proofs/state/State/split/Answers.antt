use Rattle.std.proofs.Common.{◌-◌, List, [], ◌∷◌, ◌++◌, get_or, set, ap, ◌∙◌}
use Rattle.stm_core.specs.Client.{Client}
use Rattle.stm_replay.proofs.Stepping.{splits_is}
use Rattle.stm_replay.proofs.state.State.split.Goals as goal

pub returns-clause-done : goal.returns-clause-done
returns-clause-done g c = splits_is c.self.inside c.args.self.now c.args.client c.in_ok-events.events
    c.index_mut-seat.result.now c.give.new.self c.fresh.result c.push_reserved.new.self.items c.self.view_is
    c.requires.there.inside (c.index_mut-seat.ensures.value
    ∙ ap (λ (l : List Client). get_or l (c.args.client - 1) c.index_mut-seat.result.now) c.reserve.ensures.items)
    c.in_ok-events.ensures c.give.ensures c.fresh.ensures (c.push_reserved.ensures.items
    ∙ ap (λ (l : List Client). set l (c.args.client - 1) c.give.new.self ++ c.fresh.result ∷ [])
    c.reserve.ensures.items)
