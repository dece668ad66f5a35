use Rattle.std.proofs.Common.{arith, rules, replicate, sym, ap, ◌∙◌, ◌++◌}
use Rattle.stm_region.specs.Layout.{first_cell}
use Rattle.stm_region.specs.Refused.{MayRenew}
use Rattle.stm_region.proofs.Ending.{renews_on}
use Rattle.stm_region.proofs.region.Region.renew.Goals as goal

pub of_words-requires : goal.of_words-requires
of_words-requires g c =
    let may : MayRenew c.args.self.renewal c.args.last c.args.client.value.grants = search rules in
    let stripes = ap (λ w. w.stripes) c.self.view_is in
    let renewal = sym c.self.invariant.0.counted ∙ ap (λ w. w.renewal) c.self.view_is in
    let value = ap (λ w. w.value) c.client.view_is in
    let some = c.self.invariant.0.some in
    let laid = c.in-Ok-lay_out.ensures ∙ (λ i. replicate (first_cell (stripes i)) 0 ++ c.as_slice.ensures.value i) in
    rw (c.as_slice-2.ensures.value, c.of.ensures, c.of-first.ensures, c.of-start.ensures, stripes, renewal, value)
    (renews_on g.L.Law.fits g.L.Law.lawful c.args.self c.args.client.value c.take_out-version.new.words.items
    c.in-Ok-lay_out.laid.items c.take_out-version.result c.args.last c.take_out-version.ensures.ends
    c.requires.free_handed may c.take_out-version.ensures.fits (omega arith) laid)
