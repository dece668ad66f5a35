use Rattle.std.proofs.Common.{eqb, ◌+◌, sym, ◌∙◌, ap}
use prog.Atomic.{either}
use Rattle.stm_region.proofs.Moves.{acts_here, runs, either_is}
use Rattle.stm_region.proofs.region.Region.exchange_as.Goals as goal

pub compare_exchange-requires : goal.compare_exchange-requires
compare_exchange-requires g c =
    let key = c.self.inside.table.shared.key in
    let it = acts_here g.L.Law.fits g.L.Law.lawful g.L.Law.keeps c.args.self.now _ key
    (runs _ _ key _ _ _ _ c.self.invariant.0 _ c.args.self.now c.self.view_is) g.T.AccessStep.region c.requires.told _ _
    c.args.seat.now.me g.T.AccessStep.action c.args.word (λ n. either (eqb n c.args.from) (c.args.from + 1) n)
    c.requires.ready.word_is c.requires.ready.range c.requires.ready.allowed (λ n. c.requires.exchanges n ∙
    sym (either_is (eqb n c.args.from) (c.args.from + 1) n)) in
    (c.requires.own ∙ sym (ap (λ w. w.table) c.self.view_is), it.0, it.1)
