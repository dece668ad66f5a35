use Rattle.std.proofs.Common.{arith, sym, ◌∙◌, ap}
use Rattle.stm_region.proofs.Moves.{splits_here, runs}
use Rattle.stm_region.proofs.region.Region.split.Goals as goal

pub split_seat-seat-requires : goal.split_seat-seat-requires
split_seat-seat-requires g c =
    let key = c.self.inside.table.shared.key in
    let v = c.client.inside.seat.me.0 in
    let now = ap (λ w. w.value) c.client.view_is in
    let it = splits_here g.L.Law.fits g.L.Law.lawful g.L.Law.keeps c.args.self.now _ key
    (runs _ _ key _ _ _ _ c.self.invariant.0 _ c.args.self.now c.self.view_is) _ v (
      ap (λ w. w.is_gathered) now ∙ c.requires.free_handed.0,
      ap (λ w. w.attempt.held) now ∙ c.requires.free_handed.1,
    ) (omega (arith, c.client.invariant)) in
    (ap (λ w. w.table) c.client.view_is ∙ (c.requires.own ∙ sym (ap (λ w. w.table) c.self.view_is)), it.0, it.1)
