use Rattle.std.proofs.Common.{sym, ◌∙◌, ap}
use Rattle.stm_region.proofs.Moves.{stores_here, runs}
use Rattle.stm_region.proofs.region.Region.store_as.Goals as goal

pub store-requires : goal.store-requires
store-requires g c =
    let key = c.self.inside.table.shared.key in
    let it = stores_here g.L.Law.fits g.L.Law.lawful g.L.Law.keeps c.args.self.now _ key
    (runs _ _ key _ _ _ _ c.self.invariant.0 _ c.args.self.now c.self.view_is) g.T.AccessStep.region c.requires.told _ _
    c.args.seat.now.me g.T.AccessStep.action c.args.word c.args.new
    c.requires.ready.word_is c.requires.ready.range c.requires.ready.allowed c.requires.stores.0 c.requires.stores.1 in
    (c.requires.own ∙ sym (ap (λ w. w.table) c.self.view_is), it.0, it.1)
