use Rattle.std.proofs.Common.{ap, ◌∙◌}
use Rattle.stm_core.specs.Client.{Client}
use Rattle.stm_replay.proofs.Stepping.{seen, room_for, gathers_is}
use Rattle.stm_replay.proofs.state.State.gather.Goals as goal

pub take-requires : goal.take-requires
take-requires g c = room_for c.args.self.now c.args.client c.args.other c.grants-grants.result
    c.index_mut-seat.result.now (seen c.self.inside c.args.self.now c.args.client c.index_mut-seat.result.now
    c.self.view_is c.requires.there.inside c.index_mut-seat.ensures.value) (c.grants-grants.ensures
    ∙ ap (λ (v : Client). v.grants) c.seat.ensures) c.requires.grants

pub returns-clause-done : goal.returns-clause-done
returns-clause-done g c = gathers_is c.self.inside c.args.self.now c.args.client c.args.other c.grants-grants.result
    c.in_ok-events.events c.index_mut-seat.result.now c.take.new.self c.leave.new.self c.self.view_is
    c.requires.there.inside c.index_mut-seat.ensures.value (c.grants-grants.ensures
    ∙ ap (λ (v : Client). v.grants) c.seat.ensures) c.in_ok-events.ensures c.take.ensures c.leave.ensures
