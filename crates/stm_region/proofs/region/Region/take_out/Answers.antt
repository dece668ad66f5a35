use Rattle.std.proofs.Common.{◌∙◌, ap, drop}
use Rattle.std.specs.Slots.{slots_items}
use Rattle.stm_region.specs.Layout.{first_cell}
use Rattle.stm_region.proofs.Ending.{ends_with, fits_with}
use Rattle.stm_region.proofs.region.Region.take_out.Goals as goal

pub returns-clause-ends : goal.returns-clause-ends
returns-clause-ends g c =
    let v = c.args.client.value in
    let stripes = ap (λ w. w.stripes) c.self.view_is in
    let behind = c.self.invariant.0.behind in
    ends_with g.L.Law.fits g.L.Law.lawful c.args.self _ c.into_table-table.ensures.key _ _ v
    (ap (λ w. w.0) c.into_parts-seat.ensures.seat.1) c.requires.free_handed c.requires.all _ _
    c.close_with-closed.ensures.values.2 _ _
    (c.unload-clock.ensures.words ∙ ap (λ n. drop n (slots_items c.close_with-closed.result.words))
    (behind ∙ ap first_cell stripes)) (c.in-Some.ensures.some ∙ c.unload-clock.ensures.clock)

pub returns-clause-fits : goal.returns-clause-fits
returns-clause-fits g c = fits_with g.L.Law.fits g.L.Law.lawful c.args.self _ c.into_table-table.ensures.key _ _ _ _
    c.close_with-closed.ensures.values.2
