use Rattle.std.proofs.Common.{sym, ◌∙◌, ap}
use Rattle.stm_region.proofs.Moves.{subtracts_here, runs}
use Rattle.stm_region.proofs.region.Region.give_back_as.Goals as goal

pub fetch_sub-requires : goal.fetch_sub-requires
fetch_sub-requires g c =
    let key = c.self.inside.table.shared.key in
    let it = subtracts_here g.L.Law.fits g.L.Law.lawful g.L.Law.keeps c.args.self.now _ key
    (runs _ _ key _ _ _ _ c.self.invariant.0 _ c.args.self.now c.self.view_is) g.T.AccessStep.region c.requires.told _ _
    c.args.seat.now.me g.T.AccessStep.action c.args.number c.args.word
    c.requires.gives c.requires.place c.requires.range c.requires.allowed in
    (c.requires.own ∙ sym (ap (λ w. w.table) c.self.view_is), it.0, it.1)
