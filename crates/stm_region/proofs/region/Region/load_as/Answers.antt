use Rattle.std.proofs.Common.{sym, ◌∙◌, ap}
use Rattle.stm_region.proofs.Moves.{acts_here, runs}
use Rattle.stm_region.proofs.region.Region.load_as.Goals as goal

pub load-requires : goal.load-requires
load-requires g c =
    let key = c.self.inside.table.shared.key in
    let it = acts_here g.L.Law.fits g.L.Law.lawful g.L.Law.keeps c.args.self.now _ key
    (runs _ _ key _ _ _ _ c.self.invariant.0 _ c.args.self.now c.self.view_is) g.T.AccessStep.region c.requires.told _ _
    c.args.seat.now.me g.T.AccessStep.action c.args.word (λ n. n)
    c.requires.ready.word_is c.requires.ready.range c.requires.ready.allowed c.requires.loads in
    (c.requires.own ∙ sym (ap (λ w. w.table) c.self.view_is), it.0, it.1)
